use Rattle.wb_footprints.specs.Places.{place_marked}
use Rattle.wb_footprints.proofs.Rows.{change_cleared, no_change}
use Rattle.wb_footprints.proofs.marks.cell_lists.unmark_change.Goals as goal

pub returns-in-None : goal.returns-in-None
returns-in-None c = no_change (place_marked c.args.marks.now) c.args.number c.args.marking c.args.first.now c.in-None.is

pub returns-in-Some : goal.returns-in-Some
returns-in-Some c = change_cleared (place_marked c.args.marks.now) c.args.number c.args.marking (place_marked c.unmark.new.marks) c.args.first.now
    c.in-Some.x c.as_cell.result.now c.in-Some.is c.as_cell.ensures c.unmark.ensures
