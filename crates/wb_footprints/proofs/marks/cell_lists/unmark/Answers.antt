use Rattle.wb_footprints.specs.Places.{place_marked}
use Rattle.wb_footprints.proofs.OfCells.{cell_cleared}
use Rattle.wb_footprints.proofs.marks.cell_lists.unmark.Goals as goal

pub returns-in-Some : goal.returns-in-Some
returns-in-Some c = cell_cleared (place_marked c.args.marks.now) (place_marked c.take.new.self) (place_marked c.take-in-Some.new.self) c.args.number
    c.args.marking c.args.cell.now c.own.result c.in-Some.place c.own.ensures c.in-Some.ensures c.take.ensures c.take-in-Some.ensures
