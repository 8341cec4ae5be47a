use Rattle.std.proofs.Common.{take}
use Rattle.std.specs.List.{AllByRecursion}
use Rattle.wb_cells.specs.Kinds.{IsIndex}
use Rattle.wb_cells.proofs.values.validity.indices_validity.Given as goal

-- the indices so far are made so
abbrev pub invariant-loop-index : goal.invariant-loop-index
invariant-loop-index l = AllByRecursion IsIndex (take l.index-index l.indices)
