-- Valid commands: their names are names, their ranges and mappings are within the limits, and their numbers are of 64 bits.
use Rattle.std.specs.Prelude.{◌≡◌, true, length, FitsSigned, ⊤}
use Rattle.std.specs.Int.{w64}
use Rattle.wb_range.specs.Domain.{IsListedOnce}
use Rattle.wb_cells.specs.Names.{is_name}
use Rattle.wb_cells.specs.Kinds.{IsIndex}
use Rattle.wb_cells.specs.Layouts.{IsLayout}
use Rattle.wb_cells.specs.Shapes.{indices}
use Rattle.wb_cells.specs.WellFormed.{IsRectangle}
use Rattle.wb_edit.specs.declared.asked_rectangle.AskedRectangle.{AskedRectangle}
use Rattle.wb_edit.specs.declared.asked_rectangle.AskedRectangle.TheVariants.{Ranges, Indices}
use Rattle.wb_edit.specs.declared.command.Command.{Command}
use Rattle.wb_edit.specs.ValidNumbers.{AreAskedNumbers, AreAskedOnce}
use Rattle.wb_edit.specs.ValidSources.{AreNewIndices, AreNewIndicesOnce}
use Rattle.wb_edit.specs.declared.command.Command.TheVariants.{Domain, Remap, Sparse, Assoc, Array, Set, Irv, Copy, Fill, Put, FillAll, DropArray, All, Add, Remove}
use Rattle.wb_edit.specs.declared.command.Command.TheVariants.{DropDomain, Reshape}

-- the ranges that are asked for are those of a rectangular domain
abbrev pub IsAsked : AskedRectangle → Type 0
IsAsked (Ranges rs) = IsRectangle (length rs) rs
IsAsked Indices = ⊤

-- the indices of the rectangle that is asked for are listed once each
abbrev pub IsAskedOnce : AskedRectangle → Type 0
IsAskedOnce (Ranges rs) = IsListedOnce (indices rs)
IsAskedOnce Indices = ⊤

-- what a command has to be so that it keeps a workbook well formed; every value of the type `Command` is
abbrev pub IsValidCommand : Command → Type 0
-- the new name is a name, the ranges are those of a rectangular domain, and the mapping is one for some rank
IsValidCommand (Domain d asked m) = (is_name d ≡ true) × IsAsked asked × IsLayout m
-- the mapping is one for some rank
IsValidCommand (Remap d m) = IsLayout m
-- the new name is a name
IsValidCommand (Sparse d parent) = is_name d ≡ true
-- the new name is a name
IsValidCommand (Assoc d type) = is_name d ≡ true
-- the new name is a name
IsValidCommand (Array a d) = is_name a ≡ true
-- the number is one of 64 bits
IsValidCommand (Set a i v) = FitsSigned w64 v
-- the number is one of 64 bits
IsValidCommand (Irv a v) = FitsSigned w64 v
-- the number is one of 64 bits
IsValidCommand (Copy a i b j c) = FitsSigned w64 c
-- the number is one of 64 bits
IsValidCommand (Fill a asked v) = FitsSigned w64 v
-- the numbers are of 64 bits, one for each index
IsValidCommand (Put a asked) = AreAskedNumbers asked
-- the number is one of 64 bits
IsValidCommand (FillAll a v) = FitsSigned w64 v
-- nothing is asked
IsValidCommand (DropArray a) = ⊤
-- nothing is asked
IsValidCommand (All a how b) = ⊤
-- the index is made of integers of 64 bits, or of the text of a label
IsValidCommand (Add d i) = IsIndex i
-- nothing is asked
IsValidCommand (Remove d i) = ⊤
-- nothing is asked
IsValidCommand (DropDomain d) = ⊤
-- what is given is as it has to be
IsValidCommand (Reshape d source) = AreNewIndices source

-- The indices that a command carries are listed once each; those of every value of the type `Command` are.
abbrev pub CommandListsOnce : Command → Type 0
CommandListsOnce (Fill a asked v) = IsAskedOnce asked
CommandListsOnce (Put a asked) = AreAskedOnce asked
CommandListsOnce (Reshape d source) = AreNewIndicesOnce source
CommandListsOnce _ = ⊤
