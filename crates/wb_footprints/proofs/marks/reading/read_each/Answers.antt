use Rattle.std.proofs.Common.{true, ap, ◌∙◌, arith}
use Rattle.wb_footprints.specs.Places.{place_marked, place_of}
use Rattle.wb_footprints.proofs.Setting.{on_err}
use Rattle.wb_footprints.proofs.OfCells.{read_more, read_stays}
use Rattle.wb_footprints.proofs.marks.reading.read_each.Goals as goal

pub loop-x-preserved : goal.loop-x-preserved
loop-x-preserved c = read_more (place_marked c.args.marks.now) (place_marked c.loop-x.marks) (place_marked c.add.new.self) c.args.number true c.args.reads.now
    c.loop-x.x-index c.x-item.result (omega arith) c.place_of.result (c.place_of.ensures ∙ ap place_of c.x-item.is) c.loop-x.invariant c.in_ok-add.ensures.ok

pub returns-in_err-add-clause-err : goal.returns-in_err-add-clause-err
returns-in_err-add-clause-err c = on_err c.from_residual.result
    (read_stays (place_marked c.args.marks.now) (place_marked c.loop-x.marks) (place_marked c.add.new.self) c.args.number c.args.reads.now c.loop-x.x-index
    c.x-item.result (omega arith) c.place_of.result (c.place_of.ensures ∙ ap place_of c.x-item.is) c.loop-x.invariant c.in_err-add.ensures.err)
