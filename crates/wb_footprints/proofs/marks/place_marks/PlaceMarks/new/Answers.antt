use Rattle.wb_footprints.proofs.AtPlaces.{none_at}
use Rattle.wb_footprints.proofs.marks.place_marks.PlaceMarks.new.Goals as goal

pub returns : goal.returns
returns c = none_at (record { objects = c.new.result; parts = c.new-2.result; alloc = c.args.alloc }) c.new.ensures c.new-2.ensures
