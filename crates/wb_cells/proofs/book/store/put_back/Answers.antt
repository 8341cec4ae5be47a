use Rattle.std.proofs.Common.{◌≡◌, get_or, sym, subst}
use Rattle.std.proofs.lemmas.List.Elements.{All-get_or}
use Rattle.selective_undo.specs.Changes.{apply, applied}
use Rattle.selective_undo.specs.declared.Change.{Change}
use Rattle.selective_undo.proofs.AllOrNothing.{put_step, once_step, room_step}
use Rattle.wb_cells.specs.declared.cells.cell.Cell.{Cell}
use Rattle.wb_cells.specs.declared.cells.value.Value.{Value}
use Rattle.wb_cells.specs.Cells.{cell_order, state_of}
use Rattle.wb_cells.specs.Stored.{FitsChange}
use Rattle.wb_cells.proofs.book.store.put_back.Goals as goal

pub loop-x-preserved : goal.loop-x-preserved
loop-x-preserved c =
    let i = c.loop-x.x-index in
    let xs = c.args.before.now in
    let x = c.x-item.result in
    let s = state_of c.loop-x.cells in
    let t = state_of c.put_back_one.new.cells in
    let old = c.loop-x.invariant in
    let made : t ≡ applied (get_or xs i x) s = subst (λ (y : Change Cell Value). t ≡ applied y s) c.x-item.is c.put_back_one.ensures in
    record {
      ahead = put_step cell_order xs i x s t (apply xs (state_of c.args.cells.now)) c.loop-x-test.true made old.ahead;
      once = once_step cell_order xs i x c.loop-x-test.true old.once;
      room = room_step cell_order xs i x s t c.loop-x-test.true made old.once old.room;
    }

pub put_back_one-requires-clause-fits : goal.put_back_one-requires-clause-fits
put_back_one-requires-clause-fits c =
    subst (λ (y : Change Cell Value). FitsChange y) (sym c.x-item.is)
    (All-get_or FitsChange c.args.before.now c.loop-x.x-index c.x-item.result c.loop-x-test.true c.requires.fits)
