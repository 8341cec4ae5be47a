use Rattle.std.proofs.Common.{refl}
use Rattle.wb_footprints.proofs.AtPlaces.{of_block}
use Rattle.wb_footprints.proofs.marks.place_marks.PlaceMarks.add_block.Goals as goal

pub returns : goal.returns
returns c =
    let set = rw (c.name.ensures, c.kind.ensures) at c.add_block.ensures in
    of_block c.args.self.now (record c.args.self.now { parts = c.add_block.new.self }) refl c.add_block.result c.args.row.now c.args.block.indices
    c.args.block.number set
