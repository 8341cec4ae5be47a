use Rattle.std.proofs.Common.{ap}
use Rattle.wb_cells.specs.Runs.{cell_of, name_of_row, kind_of_row}
use Rattle.wb_footprints.specs.Parts.{part_at}
use Rattle.wb_footprints.specs.ObjectParts.{object_marked}
use Rattle.wb_footprints.specs.Places.{own, place_marked}
use Rattle.wb_footprints.proofs.AtPoints.{same_least}
use Rattle.wb_footprints.proofs.RunPlaces.{own_at}
use Rattle.wb_footprints.proofs.marks.place_marks.PlaceMarks.least_in.Goals as goal

pub returns : goal.returns
returns c =
    let m = c.args.self.now in
    let row = c.args.row.now in
    let least = rw (c.name.ensures, c.kind.ensures) at c.least_in.ensures in
    same_least (λ p n. object_marked m.parts (name_of_row row, part_at (kind_of_row row) p) n) (λ p n. place_marked m (own (cell_of row p)) n)
    (λ p n. ap (λ q. place_marked m q n) (own_at row p)) c.args.indices.now c.args.after c.least_in.result least
