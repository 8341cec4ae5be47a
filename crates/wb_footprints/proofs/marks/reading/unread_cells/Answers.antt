use Rattle.wb_footprints.specs.declared.places.marking.Marking.TheVariants.{Own}
use Rattle.wb_footprints.specs.Places.{place_marked}
use Rattle.wb_footprints.specs.Footprints.{marked_at}
use Rattle.wb_footprints.proofs.ReadPlaces.{cells_read}
use Rattle.wb_footprints.proofs.Setting.{clears_like}
use Rattle.wb_footprints.proofs.marks.reading.unread_cells.Goals as goal

pub returns : goal.returns
returns c = clears_like (place_marked c.args.marks.now) (place_marked c.unmark_all.new.marks) (marked_at Own c.args.cells.now) _ c.args.number
    (cells_read c.args.cells.now) c.unmark_all.ensures
