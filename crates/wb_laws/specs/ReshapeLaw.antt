-- An accepted reshape of a domain is its assignment in the words of index sets and arrays.
use Rattle.std.specs.Prelude.{◌≡◌, Ok}
use Rattle.selective_undo.specs.Edit.{outcome, step}
use Rattle.wb_cells.specs.Cells.{Name, Cells, Changes}
use Rattle.wb_cells.specs.WellFormed.{IsWellFormed}
use Rattle.wb_reshape.specs.declared.new_indices.NewIndices.{NewIndices}
use Rattle.wb_edit.specs.declared.command.Command.TheVariants.{Reshape}
use Rattle.wb_edit.specs.Commands.{command_meaning}
use Rattle.wb_edit.specs.Valid.{IsValidCommand}
use Rattle.wb_laws.specs.Reshaped.{is_of_source, IsReshaped}

-- Where a valid reshape is accepted in a well-formed workbook, the domain has exactly the indices of its source after it, and
-- each array over it is reallocated.
abbrev pub ReshapeLaw : Type 0
ReshapeLaw =
    (s : Cells) (d : Name) (source : NewIndices) (xs : Changes)
    → IsWellFormed s → IsValidCommand (Reshape d source)
    → outcome (command_meaning (Reshape d source)) s ≡ Ok xs
    → IsReshaped s (step (command_meaning (Reshape d source)) s) d (is_of_source s d source)
