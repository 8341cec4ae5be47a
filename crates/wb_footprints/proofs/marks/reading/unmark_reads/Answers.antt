use Rattle.std.proofs.Common.{refl}
use Rattle.wb_footprints.specs.Places.{place_marked}
use Rattle.wb_footprints.proofs.ReadPlaces.{both_cleared}
use Rattle.wb_footprints.proofs.marks.reading.unmark_reads.Goals as goal

pub returns : goal.returns
returns c = both_cleared (place_marked c.args.marks.now) (place_marked c.unread_each.new.marks) (place_marked c.unread_runs.new.marks) c.args.number
    _ _ _ refl c.unread_each.ensures c.unread_runs.ensures
