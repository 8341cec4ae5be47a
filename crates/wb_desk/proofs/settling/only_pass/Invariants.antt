use Rattle.wb_desk.proofs.Passes.{FoundIn}
use Rattle.wb_desk.proofs.settling.only_pass.Given as goal

abbrev pub invariant-loop-at : goal.invariant-loop-at
invariant-loop-at g l = FoundIn l.passes l.seat l.at l.found
