use Rattle.std.proofs.Common.{sym, ap, arith}
use Rattle.selective_undo.specs.Changes.{apply}
use Rattle.wb_cells.specs.Cells.{Changes}
use Rattle.wb_edit.proofs.InTurn.{none_made, made_more, next_here, all_made, stopped_at}
use Rattle.wb_edit.proofs.several.attempt_all.Goals as goal

pub loop-place-init : goal.loop-place-init
loop-place-init c =
    record {
      made = none_made c.args.book.cells c.args.footprint.now c.args.book.laid c.requires;
      here = sym (ap (λ (xs : Changes). apply xs c.args.book.cells) c.requires);
    }

pub loop-place-preserved : goal.loop-place-preserved
loop-place-preserved c =
    let next = c.in-Ok.ensures in
    record {
      made = made_more c.args.commands.now c.loop-place.place c.index-commands-place.result c.args.book.cells c.loop-place.laid.cells c.args.footprint.now
          c.loop-place.footprint c.make_next.new.footprint c.loop-place.laid.laid c.in-Ok.next.laid next.0 c.loop-place-test.true c.index-commands-place.is
          c.loop-place.invariant.made c.loop-place.invariant.here next.1 next.2 next.4;
      here = next_here c.args.book.cells c.loop-place.laid.cells c.in-Ok.next.cells c.loop-place.laid.laid c.in-Ok.next.laid next.0
          c.loop-place.invariant.here next.3 next.4;
    }

pub returns-in-Err : goal.returns-in-Err
returns-in-Err c =
    stopped_at c.args.commands.now c.loop-place.place c.index-commands-place.result c.args.book.cells c.args.footprint.now c.loop-place.footprint
    c.make_next.new.footprint c.loop-place.laid c.in-Err.why c.loop-place-test.true c.index-commands-place.is c.loop-place.invariant.made
    c.loop-place.invariant.here c.in-Err.ensures

pub returns : goal.returns
returns c =
    all_made c.args.commands.now c.loop-place.place c.args.book.cells c.args.footprint.now c.loop-place.footprint c.loop-place.laid
    (omega (arith, c.loop-place-test.false)) c.loop-place.invariant.made
