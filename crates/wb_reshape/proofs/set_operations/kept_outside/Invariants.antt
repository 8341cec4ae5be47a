use Rattle.std.proofs.Common.{◌≡◌, take}
use Rattle.wb_reshape.specs.Resized.{without}
use Rattle.wb_reshape.proofs.set_operations.kept_outside.Given as goal

abbrev pub invariant-loop-index : goal.invariant-loop-index
invariant-loop-index l = l.kept.items ≡ without l.set (take l.index-index l.listed)
