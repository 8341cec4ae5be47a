use Rattle.std.proofs.Common.{take}
use Rattle.std.specs.List.{AllByRecursion}
use Rattle.wb_text.specs.Said.{line_of}
use Rattle.wb_text.specs.FromLines.Made.{IsMade}
use Rattle.wb_reading.proofs.workbook.rebuilding.lines_validity.Given as goal

-- the lines so far are made so
abbrev pub invariant-loop-line : goal.invariant-loop-line
invariant-loop-line l = AllByRecursion (λ x. IsMade (line_of x)) (take l.line-index l.lines)
