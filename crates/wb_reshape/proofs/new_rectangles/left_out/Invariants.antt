use Rattle.std.proofs.Common.{◌≡◌, take}
use Rattle.wb_cells.specs.Shapes.{indices}
use Rattle.wb_reshape.specs.Resized.{without}
use Rattle.wb_reshape.proofs.new_rectangles.left_out.Given as goal

-- those of the indices so far
abbrev pub invariant-loop-p : goal.invariant-loop-p
invariant-loop-p l = l.left.items ≡ without (indices l.new) (take l.p (indices l.old))
