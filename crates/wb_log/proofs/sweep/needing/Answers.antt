use Rattle.std.proofs.Common.{◌≡◌, List, ℕ, [], ◌∷◌, length, reverse, ap, sym, subst, ◌∙◌}
use Rattle.std.proofs.lemmas.List.{reverse-append}
use Rattle.wb_log.specs.Kept.{by_number}
use Rattle.wb_log.specs.Needed.{AreFromFootprints}
use Rattle.wb_log.proofs.Sweeps.{Swept, first_swept, next_swept, all_swept, within_log, cells_taken}
use Rattle.wb_log.proofs.sweep.needing.Goals as goal

pub loop-next-init : goal.loop-next-init
loop-next-init c =
    let es = c.args.entries.now in
    let first = first_swept (by_number es) c.args.number (length es) c.new-waiting.result c.add.new.self c.requires.positive c.requires.in_log
    c.new-waiting.ensures c.in-Ok.ensures.ok in
    (rw c.new-found.ensures.items first, c.new-swept.ensures c.args.index.now c.add.new.self 0)

pub loop-next-preserved : goal.loop-next-preserved
loop-next-preserved c =
    let es = c.args.entries.now in
    let next = c.in-Some.next in
    let old = c.loop-next.found.items in
    let now : reverse c.push.new.self.items ≡ next ∷ reverse old = ap reverse c.in-Ok-push.ensures.items ∙ reverse-append old (next ∷ []) in
    let step = next_swept (by_number es) c.args.number (length es) (reverse old) c.loop-next.last next c.loop-next.waiting c.take_least.new.self
    c.wait_for_those.new.waiting
    c.loop-next.invariant.0 c.in-Some.ensures.least c.in-Some.ensures.taken c.in-Ok-wait_for_those.ensures.joined (λ n need. within_log es n next need) in (
      subst (λ (ns : List ℕ). Swept (by_number es) c.args.number (length es) ns next c.wait_for_those.new.waiting) (sym now) step,
      c.in-Ok-wait_for_those.ensures.swept,
    )

pub wait_for_those-requires-clause-swept : goal.wait_for_those-requires-clause-swept
wait_for_those-requires-clause-swept c =
    cells_taken c.args.index.now c.loop-next.swept c.loop-next.waiting c.take_least.new.self c.loop-next.last c.in-Some.next c.loop-next.invariant.1
    (c.loop-next.invariant.0.above c.in-Some.next c.in-Some.ensures.least.0) c.in-Some.ensures.taken

pub returns : goal.returns
returns c =
    let es = c.args.entries.now in
    let found = all_swept (by_number es) c.args.number (length es) (reverse c.loop-next.found.items) c.loop-next.last c.loop-next.waiting
    c.loop-next.invariant.0 c.in_default.ensures.least in
    subst (λ (ns : List ℕ). AreFromFootprints (by_number es) c.args.number ns) (sym c.reverse.ensures.items) found
