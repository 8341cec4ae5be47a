use Rattle.std.proofs.Common.{take}
use Rattle.std.specs.Prelude.{FitsSigned}
use Rattle.std.specs.Int.{w64}
use Rattle.std.specs.List.{AllByRecursion}
use Rattle.wb_cells.proofs.values.validity.numbers_validity.Given as goal

-- the numbers so far are of 64 bits
abbrev pub invariant-loop-number : goal.invariant-loop-number
invariant-loop-number l = AllByRecursion (FitsSigned w64) (take l.number-index l.numbers)
