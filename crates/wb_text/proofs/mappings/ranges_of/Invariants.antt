use Rattle.std.proofs.Common.{◌≡◌, take}
use Rattle.wb_text.proofs.mappings.ranges_of.Given as goal

abbrev pub invariant-loop-p : goal.invariant-loop-p
invariant-loop-p g l = l.ranges.items ≡ take l.p l.rect
