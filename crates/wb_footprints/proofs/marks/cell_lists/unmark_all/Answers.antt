use Rattle.wb_footprints.specs.Places.{place_marked}
use Rattle.wb_footprints.proofs.Rows.{joined_cleared}
use Rattle.wb_footprints.proofs.marks.cell_lists.unmark_all.Goals as goal

pub returns : goal.returns
returns c = joined_cleared (place_marked c.args.marks.now) (place_marked c.unmark_change.new.marks) (place_marked c.unmark_runs.new.marks) c.args.number
    c.args.marking _ _ c.args.cells.now c.parts-first.ensures c.unmark_change.ensures c.unmark_runs.ensures
