-- What holds of every edit.
use Rattle.selective_undo.specs.Changes.{AllOnce}
use Rattle.selective_undo.specs.Edit.{outcome, step, written}
use Rattle.wb_cells.specs.Cells.{Cells, cell_cmp}
use Rattle.wb_cells.specs.WellFormed.{IsWellFormed}
use Rattle.wb_edit.specs.declared.command.Command.{Command}
use Rattle.wb_edit.specs.declared.edit.Edit.{Edit}
use Rattle.wb_edit.specs.Commands.{command_meaning}
use Rattle.wb_edit.specs.Edits.{meaning, IsValid, ListsOnce}
use Rattle.wb_edit.specs.Valid.{IsValidCommand, CommandListsOnce}

-- A valid edit, accepted or refused, leaves a well-formed workbook well formed.
abbrev pub KeepsWellFormed : Type 0
KeepsWellFormed = (e : Edit) (s : Cells) → IsValid e → IsWellFormed s → IsWellFormed (step (meaning e) s)

-- What a valid edit writes in a well-formed workbook names each cell once, so that its count is how many cells it touches,
-- the cells `In` aside.
abbrev pub EachCellOnce : Type 0
EachCellOnce = (e : Edit) (s : Cells) → IsValid e → ListsOnce e → IsWellFormed s → AllOnce cell_cmp (written (outcome (meaning e) s))

-- ---- of one command

abbrev pub CommandKeeps : Type 0
CommandKeeps = (c : Command) (s : Cells) → IsValidCommand c → IsWellFormed s → IsWellFormed (step (command_meaning c) s)

abbrev pub CommandWritesOnce : Type 0
CommandWritesOnce =
    (c : Command) (s : Cells) → IsValidCommand c → CommandListsOnce c → IsWellFormed s → AllOnce cell_cmp (written (outcome (command_meaning c) s))
