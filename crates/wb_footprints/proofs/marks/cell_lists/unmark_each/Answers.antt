use Rattle.std.proofs.Common.{◌<◌, None, length, arith}
use Rattle.selective_undo.specs.declared.Change.{Change}
use Rattle.wb_cells.specs.declared.cells.cell.Cell.{Cell}
use Rattle.wb_cells.specs.declared.cells.value.Value.{Value}
use Rattle.wb_cells.specs.Runs.{changes_in}
use Rattle.wb_footprints.specs.Places.{place_marked}
use Rattle.wb_footprints.proofs.OfCells.{marked_cleared}
use Rattle.wb_footprints.proofs.marks.cell_lists.unmark_each.Goals as goal

pub loop-at-preserved : goal.loop-at-preserved
loop-at-preserved c =
    let xs = changes_in c.args.cells.now.form in
    let i = c.loop-at.at in
    let low : i < length xs = omega (arith, c.loop-at-test.true, c.len-at-end.ensures) in
    let d : Change Cell Value = record { cell = c.cell-cell.result; value = None } in
    marked_cleared (place_marked c.args.marks.now) (place_marked c.loop-at.marks) (place_marked c.unmark.new.marks) c.args.number c.args.marking xs i d low
    c.cell-cell.result (c.cell-cell.ensures d) c.loop-at.invariant c.unmark.ensures
