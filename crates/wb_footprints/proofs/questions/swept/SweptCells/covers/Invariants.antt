use Rattle.std.specs.Prelude.{⊤}
use Rattle.wb_footprints.proofs.questions.swept.SweptCells.covers.Given as goal

abbrev pub invariant-loop-kept : goal.invariant-loop-kept
invariant-loop-kept l = ⊤
