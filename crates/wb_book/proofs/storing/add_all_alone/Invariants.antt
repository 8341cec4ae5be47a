use Rattle.std.proofs.Common.{◌≡◌, ◌||◌, take}
use Rattle.selective_undo.specs.Changes.{changes}
use Rattle.wb_cells.specs.declared.cells.cell.Cell.TheVariants.{Object}
use Rattle.wb_cells.specs.Cells.{Name, cell_cmp}
use Rattle.wb_cells.specs.Runs.{all_changes}
use Rattle.wb_book.proofs.storing.add_all_alone.Given as goal

abbrev pub invariant-loop-run : goal.invariant-loop-run
invariant-loop-run l = (b : Name) → changes cell_cmp l.alone.items (Object b) ≡
    changes cell_cmp l.fn.alone.items (Object b) || changes cell_cmp (all_changes (take l.run-index l.runs)) (Object b)
