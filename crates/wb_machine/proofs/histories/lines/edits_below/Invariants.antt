use Rattle.std.proofs.Common.{length}
use Rattle.wb_history.specs.Restored.{marked}
use Rattle.wb_machine.specs.Histories.Text.{AreAsked}
use Rattle.wb_machine.proofs.HistoryTexts.Steps.{Left}
use Rattle.wb_machine.proofs.histories.lines.edits_below.Given as goal

-- what is still to be read, and what was read
abbrev pub invariant-loop-before : goal.invariant-loop-before
invariant-loop-before l = record {
  left : Left l.fn.bytes l.rest (marked l.edits.items);
  asked : AreAsked (marked l.edits.items);
}

abbrev pub decreases-loop-before : goal.decreases-loop-before
decreases-loop-before l = length l.rest
