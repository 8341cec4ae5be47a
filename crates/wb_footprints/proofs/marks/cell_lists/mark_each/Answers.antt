use Rattle.std.proofs.Common.{◌<◌, None, length, true, arith}
use Rattle.selective_undo.specs.declared.Change.{Change}
use Rattle.wb_cells.specs.declared.cells.cell.Cell.{Cell}
use Rattle.wb_cells.specs.declared.cells.value.Value.{Value}
use Rattle.wb_cells.specs.Runs.{changes_in}
use Rattle.wb_footprints.specs.Places.{place_marked}
use Rattle.wb_footprints.proofs.Setting.{on_err}
use Rattle.wb_footprints.proofs.OfCells.{marked_more, marked_stays}
use Rattle.wb_footprints.proofs.marks.cell_lists.mark_each.Goals as goal

pub loop-at-preserved : goal.loop-at-preserved
loop-at-preserved c =
    let xs = changes_in c.args.cells.now.form in
    let i = c.loop-at.at in
    let low : i < length xs = omega (arith, c.loop-at-test.true, c.len-at-end.ensures) in
    let d : Change Cell Value = record { cell = c.cell-cell.result; value = None } in
    marked_more (place_marked c.args.marks.now) (place_marked c.loop-at.marks) (place_marked c.mark.new.marks) c.args.number true c.args.marking xs i d low
    c.cell-cell.result (c.cell-cell.ensures d) c.loop-at.invariant c.in_ok-mark.ensures.ok

pub returns-in_err-mark-clause-err : goal.returns-in_err-mark-clause-err
returns-in_err-mark-clause-err c =
    let xs = changes_in c.args.cells.now.form in
    let i = c.loop-at.at in
    let low : i < length xs = omega (arith, c.loop-at-test.true, c.len-at-end.ensures) in
    let d : Change Cell Value = record { cell = c.cell-cell.result; value = None } in
    on_err c.from_residual.result
    (marked_stays (place_marked c.args.marks.now) (place_marked c.loop-at.marks) (place_marked c.mark.new.marks) c.args.number c.args.marking xs i d low
    c.cell-cell.result (c.cell-cell.ensures d) c.loop-at.invariant c.in_err-mark.ensures.err)
