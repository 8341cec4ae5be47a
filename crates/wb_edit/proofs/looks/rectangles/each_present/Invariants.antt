use Rattle.std.proofs.Common.{◌≡◌, map, take, is_some}
use Rattle.std.specs.FinMap.{get}
use Rattle.std.specs.List.{list_all}
use Rattle.wb_cells.specs.declared.cells.cell.Cell.TheVariants.{Element}
use Rattle.wb_cells.specs.Shapes.{indices}
use Rattle.wb_edit.proofs.looks.rectangles.each_present.Given as goal

-- whether the elements at the indices so far are there
abbrev pub invariant-loop-p : goal.invariant-loop-p
invariant-loop-p l = l.all ≡ list_all is_some (map (get l.book.cells) (map (Element l.array) (take l.p (indices l.on))))
