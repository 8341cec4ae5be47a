use Rattle.std.proofs.Common.{ap, ◌∙◌, arith}
use Rattle.wb_footprints.specs.Places.{place_marked, place_of}
use Rattle.wb_footprints.proofs.OfCells.{read_cleared}
use Rattle.wb_footprints.proofs.marks.reading.unread_each.Goals as goal

pub loop-x-preserved : goal.loop-x-preserved
loop-x-preserved c = read_cleared (place_marked c.args.marks.now) (place_marked c.loop-x.marks) (place_marked c.take.new.self) c.args.number
    c.args.reads.now c.loop-x.x-index c.x-item.result (omega arith) c.place_of.result (c.place_of.ensures ∙ ap place_of c.x-item.is)
    c.loop-x.invariant c.take.ensures
