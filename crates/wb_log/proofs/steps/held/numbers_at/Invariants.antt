use Rattle.std.proofs.Common.{◌≡◌, take}
use Rattle.selective_undo.specs.Changes.{inverse}
use Rattle.wb_cells.specs.Runs.{packed_changes}
use Rattle.wb_cells.specs.declared.changes.row.IndexedRow.TheVariants.{Elements}
use Rattle.wb_log.proofs.steps.held.numbers_at.Given as goal

-- what the elements so far are
abbrev pub invariant-loop-entry : goal.invariant-loop-entry
invariant-loop-entry g l =
    packed_changes (Elements l.array) l.held.items ≡ inverse (packed_changes (Elements l.array) (take l.entry-index l.changed)) l.book.cells
