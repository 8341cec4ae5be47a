use Rattle.std.proofs.Common.{◌≡◌, true, take}
use Rattle.std.specs.List.{list_all}
use Rattle.wb_cells.specs.Shapes.{indices}
use Rattle.wb_cells.specs.WellFormed.{has}
use Rattle.wb_literals.specs.Said.{items}
use Rattle.wb_literals.specs.Limits.Literals.{listed_in}
use Rattle.wb_text.proofs.workbook.told.are_within.Given as goal

abbrev pub invariant-loop-place : goal.invariant-loop-place
invariant-loop-place l = list_all (has (indices l.ranges)) (take l.place (listed_in (items l.set))) ≡ true
