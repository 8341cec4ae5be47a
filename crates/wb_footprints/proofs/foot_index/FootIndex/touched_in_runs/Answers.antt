use Rattle.std.proofs.Common.{◌≡◌, ◌+◌, ◌++◌, ℕ, Bool, take, ap, sym, ◌∙◌, arith}
use Rattle.std.specs.List.{list_any}
use Rattle.selective_undo.specs.declared.Change.{Change}
use Rattle.wb_cells.specs.declared.cells.cell.Cell.{Cell}
use Rattle.wb_cells.specs.declared.cells.value.Value.{Value}
use Rattle.wb_cells.specs.declared.changes.run.ChangeRun.{ChangeRun}
use Rattle.wb_cells.specs.Runs.{changes_in, all_changes}
use Rattle.wb_footprints.specs.Places.{own}
use Rattle.wb_footprints.specs.Footprints.{touched_by}
use Rattle.wb_footprints.proofs.InRuns.{all_more, all_parts}
use Rattle.wb_footprints.proofs.AtPoints.{joined_least}
use Rattle.wb_footprints.proofs.Meeting.{any_first, soonest}
use Rattle.wb_footprints.proofs.foot_index.FootIndex.touched_in_runs.Goals as goal

pub loop-run-preserved : goal.loop-run-preserved
loop-run-preserved c =
    let i = c.loop-run.run-index in
    let rs = c.args.runs.now in
    let r = c.run-item.result in
    let more : all_changes (take (i + 1) rs) ≡ all_changes (take i rs) ++ changes_in r.form =
    all_more (λ (x : ChangeRun). changes_in x.form) rs i r (omega arith) ∙
    ap (λ (x : ChangeRun). all_changes (take i rs) ++ changes_in x.form) (sym c.run-item.is) in
    λ footprints h.
    let met : Change Cell Value → ℕ → Bool = λ x n. touched_by (footprints n) (own x.cell) in
    joined_least met (all_changes (take i rs)) (changes_in r.form) (all_changes (take (i + 1) rs)) more c.args.after c.earlier-first.result
    (c.earlier-first.ensures.least (λ n. list_any (λ x. met x n) (all_changes (take i rs))) (λ n. list_any (λ x. met x n) (changes_in r.form))
    c.args.after (c.loop-run.invariant footprints h) (c.touched_in.ensures footprints h))

pub returns-then-is_next : goal.returns-then-is_next
returns-then-is_next c =
    let i = c.loop-run.run-index in
    let rs = c.args.runs.now in
    let r = c.run-item.result in
    let first = c.earlier-first.result in
    let more : all_changes (take (i + 1) rs) ≡ all_changes (take i rs) ++ changes_in r.form =
    all_more (λ (x : ChangeRun). changes_in x.form) rs i r (omega arith) ∙
    ap (λ (x : ChangeRun). all_changes (take i rs) ++ changes_in x.form) (sym c.run-item.is) in
    λ footprints h.
    let met : Change Cell Value → ℕ → Bool = λ x n. touched_by (footprints n) (own x.cell) in
    soonest (λ n. list_any (λ x. met x n) (all_changes (take (i + 1) rs))) (λ n. list_any (λ x. met x n) (all_changes rs)) c.args.after first
    (c.is_next.ensures c.if-is_next.true)
    (λ n e. any_first (λ x. met x n) (all_changes (take (i + 1) rs)) _ (all_changes rs) (all_parts (λ (x : ChangeRun). changes_in x.form) rs (i + 1)) e)
    (joined_least met (all_changes (take i rs)) (changes_in r.form) (all_changes (take (i + 1) rs)) more c.args.after first
    (c.earlier-first.ensures.least (λ n. list_any (λ x. met x n) (all_changes (take i rs))) (λ n. list_any (λ x. met x n) (changes_in r.form))
    c.args.after (c.loop-run.invariant footprints h) (c.touched_in.ensures footprints h)))
