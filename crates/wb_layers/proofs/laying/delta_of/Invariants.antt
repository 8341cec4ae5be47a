use Rattle.std.proofs.Common.{◌≡◌, take}
use Rattle.wb_layers.proofs.laying.delta_of.Given as goal

-- the changes so far
abbrev pub invariant-loop-change : goal.invariant-loop-change
invariant-loop-change l = l.delta ≡ take l.change-index l.changes
