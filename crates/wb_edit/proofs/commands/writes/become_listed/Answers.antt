use Rattle.std.proofs.Common.{◌≡◌, ◌<◌, length, arith, ◌++◌, ◌∷◌, [], map, take, Some, slice_get, sym, ap, ◌∙◌, append_assoc}
use Rattle.wb_cells.specs.Runs.{cell_of}
use Rattle.wb_edit.specs.Changed.{set_all}
use Rattle.wb_edit.proofs.IndexedRows.{next_is_new, grows, nothing_there}
use Rattle.wb_edit.proofs.commands.writes.become_listed.Goals.{in-Some+in_ok-change_at-in-Some, in-None}
use Rattle.wb_edit.proofs.commands.writes.become_listed.Goals as goal

pub change_at-requires : goal.change_at-requires
change_at-requires c =
    let is = c.args.listed.now in
    let here : slice_get is c.loop-p.p ≡ Some c.in-Some.index = sym c.nth.ensures ∙ c.in-Some.is in
    rw c.loop-p.invariant (next_is_new c.args.row.now c.args.value.now c.args.delta.now is c.loop-p.p c.in-Some.index c.requires.once
    (c.requires.new c.loop-p.p c.in-Some.index here) here)

pub loop-p-preserved : goal.loop-p-preserved
loop-p-preserved c =
    let is = c.args.listed.now in
    let f = cell_of c.args.row.now in
    let v = c.args.value.now in
    let old = c.args.delta.now in
    let sofar = set_all (map f (take c.loop-p.p is)) v in
    elim c.match-nth.branch [
      | in-Some+in_ok-change_at-in-Some w ↦
          let i = w.in-Some.index in
          let here : slice_get is c.loop-p.p ≡ Some i = sym c.nth.ensures ∙ w.in-Some.is in
          w.delta-is ∙ w.in_ok-change_at-in-Some.ensures.ok ∙ rw c.loop-p.invariant
          (append_assoc old sofar (record { cell = f i; value = v } ∷ []) ∙ ap (λ xs. old ++ xs) (sym (grows c.args.row.now v is c.loop-p.p i here)))
      | in-None w ↦
          let low : c.loop-p.p < length is = omega arith in
          absurd (nothing_there is c.loop-p.p low (sym c.nth.ensures ∙ w.in-None.is))
    ]
