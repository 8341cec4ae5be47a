use Rattle.std.proofs.Common.{take}
use Rattle.std.specs.List.{AllByRecursion}
use Rattle.wb_cells.specs.Kinds.{IsIndex}
use Rattle.wb_literals.specs.Said.{items}
use Rattle.wb_literals.specs.Limits.Literals.{listed_in}
use Rattle.wb_text.proofs.workbook.making.set_validity.Given as goal

-- the indices so far are made so
abbrev pub invariant-loop-place : goal.invariant-loop-place
invariant-loop-place l = AllByRecursion IsIndex (take l.place (listed_in (items l.set)))
