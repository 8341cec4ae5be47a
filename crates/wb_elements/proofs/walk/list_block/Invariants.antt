use Rattle.std.proofs.Common.{◌≡◌, ◌++◌, take}
use Rattle.wb_cells.specs.declared.values.index.Index.TheVariants.{Point}
use Rattle.wb_elements.specs.Piecewise.Marked.{as_changes}
use Rattle.wb_elements.proofs.walk.list_block.Given as goal

abbrev pub invariant-loop-at : goal.invariant-loop-at
invariant-loop-at g l = l.list.items ≡ l.fn.list.items ++ take l.at (as_changes Point (g.B.ChangeBlock.entries l.block))
