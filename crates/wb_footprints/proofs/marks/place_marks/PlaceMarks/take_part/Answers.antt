use Rattle.std.proofs.Common.{refl}
use Rattle.wb_footprints.proofs.AtPlaces.{of_cleared}
use Rattle.wb_footprints.proofs.marks.place_marks.PlaceMarks.take_part.Goals as goal

pub returns : goal.returns
returns c = of_cleared c.args.self.now (record c.args.self.now { parts = c.take.new.self }) refl c.args.name.now c.args.part.now c.args.number c.take.ensures
