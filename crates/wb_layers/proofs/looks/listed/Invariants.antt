use Rattle.std.proofs.Common.{◌≡◌, ◌++◌, length}
use Rattle.wb_layers.proofs.looks.listed.Given as goal

-- those that are listed, and then those that are left, are those that were left
abbrev pub invariant-loop-index : goal.invariant-loop-index
invariant-loop-index l = l.found.items ++ l.members ≡ l.initial.members

abbrev pub decreases-loop-index : goal.decreases-loop-index
decreases-loop-index l = length l.members
