-- Valid sources of a domain's new value: their ranges are within the limits, and their indices are ones that a domain may have.
use Rattle.std.specs.Prelude.{length, ⊤}
use Rattle.std.specs.List.{All}
use Rattle.wb_range.specs.Domain.{IsListedOnce}
use Rattle.wb_cells.specs.Kinds.{IsIndex}
use Rattle.wb_cells.specs.WellFormed.{IsRectangle}
use Rattle.wb_reshape.specs.declared.operand.Operand.{Operand}
use Rattle.wb_reshape.specs.declared.operand.Operand.TheVariants.{Rectangle, Items, Named}
use Rattle.wb_reshape.specs.declared.new_indices.NewIndices.{NewIndices}
use Rattle.wb_reshape.specs.declared.new_indices.NewIndices.TheVariants.{To, Slice, Displace, Combine}

-- what is given for a domain: a rectangle within the limits, indices made of integers of 64 bits or of texts of labels, or a name
abbrev pub IsOperand : Operand → Type 0
IsOperand (Rectangle rs) = IsRectangle (length rs) rs
IsOperand (Items is) = All IsIndex is
IsOperand (Named e) = ⊤

abbrev pub AreNewIndices : NewIndices → Type 0
AreNewIndices (To given) = IsOperand given
AreNewIndices (Slice given) = IsOperand given
AreNewIndices (Displace how offsets) = ⊤
AreNewIndices (Combine how given) = IsOperand given

-- ---- each index once

-- a set that is given has each index once
abbrev pub IsOperandOnce : Operand → Type 0
IsOperandOnce (Rectangle rs) = ⊤
IsOperandOnce (Items is) = IsListedOnce is
IsOperandOnce (Named e) = ⊤

abbrev pub AreNewIndicesOnce : NewIndices → Type 0
AreNewIndicesOnce (To given) = IsOperandOnce given
AreNewIndicesOnce (Slice given) = IsOperandOnce given
AreNewIndicesOnce (Displace how offsets) = ⊤
AreNewIndicesOnce (Combine how given) = IsOperandOnce given
