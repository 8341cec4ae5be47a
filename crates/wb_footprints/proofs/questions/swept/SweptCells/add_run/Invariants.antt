use Rattle.std.proofs.Common.{ℕ}
use Rattle.wb_footprints.specs.declared.foot_index.FootIndex.{FootIndex}
use Rattle.wb_footprints.specs.Numbers.{Numbers}
use Rattle.wb_footprints.specs.Swept.{AreSwept, AreWaiting}
use Rattle.wb_footprints.proofs.questions.swept.SweptCells.add_run.Given as goal

abbrev pub invariant-loop-at : goal.invariant-loop-at
invariant-loop-at l = (index : FootIndex) (waiting : Numbers) (after : ℕ) → AreSwept index l.initial.self waiting after →
    AreWaiting index l.run.row l.run.indices waiting after → AreSwept index l.self waiting after
