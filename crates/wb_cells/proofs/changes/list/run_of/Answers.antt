use Rattle.std.proofs.lemmas.Bool.Decides.{not_from_Decides}
use Rattle.wb_cells.proofs.Runs.{past_number}
use Rattle.wb_cells.proofs.changes.list.run_of.Goals as goal

pub returns-then-has_place-clause-place : goal.returns-then-has_place-clause-place
returns-then-has_place-clause-place c = λ r e. (c.has_place.ensures.place r e).0 c.if-has_place.true

pub returns-then-has_place-2-clause-place : goal.returns-then-has_place-2-clause-place
returns-then-has_place-2-clause-place c = λ r e. (c.has_place-2.ensures.place r e).0 c.if-has_place-2.true

pub returns-then-has_place-3-clause-place : goal.returns-then-has_place-3-clause-place
returns-then-has_place-3-clause-place c = λ r e. (c.has_place-in-loop-number.ensures.place r e).0 c.if-has_place-3.true

pub loop-number-preserved : goal.loop-number-preserved
loop-number-preserved c = past_number c.args.before c.args.runs.now c.loop-number.number c.args.at c.requires.started c.loop-number-test.true
    (λ r e. not_from_Decides c.has_place-in-loop-number.result (c.has_place-in-loop-number.ensures.place r e) c.if-has_place-3.false) c.loop-number.invariant
