-- What edits of a workbook are about: its cells, their values, the patterns, and the refusals.
use Rattle.selective_undo.specs.Edit.{Schema}
use Rattle.wb_cells.specs.declared.cells.cell.Cell.{Cell}
use Rattle.wb_cells.specs.declared.cells.pattern.Pattern.{Pattern}
use Rattle.wb_cells.specs.declared.cells.value.Value.{Value}
use Rattle.wb_cells.specs.Cells.{cell_cmp, cell_order, matches}
use Rattle.wb_cells.specs.declared.refusal.EditRefusal.{EditRefusal}

abbrev pub workbook : Schema
workbook = record { Cell = Cell; order = cell_cmp; is_order = cell_order; Value = Value; Pattern = Pattern; matches = matches; Refusal = EditRefusal }
