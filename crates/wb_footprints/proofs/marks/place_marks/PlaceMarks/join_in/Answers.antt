use Rattle.std.proofs.Common.{ap}
use Rattle.std.proofs.lemmas.Result.{on_ok_weaker}
use Rattle.wb_cells.specs.Runs.{cell_of, name_of_row, kind_of_row}
use Rattle.wb_footprints.specs.Parts.{part_at}
use Rattle.wb_footprints.specs.ObjectParts.{object_marked}
use Rattle.wb_footprints.specs.Places.{own, place_marked}
use Rattle.wb_footprints.proofs.Joining.{same_joined}
use Rattle.wb_footprints.proofs.RunPlaces.{own_at}
use Rattle.wb_footprints.proofs.marks.place_marks.PlaceMarks.join_in.Goals as goal

pub returns : goal.returns
returns c =
    let m = c.args.self.now in
    let row = c.args.row.now in
    let joined = rw (c.name.ensures, c.kind.ensures) at c.join_in.ensures in
    on_ok_weaker c.join_in.result
    (λ h. same_joined (λ p n. object_marked m.parts (name_of_row row, part_at (kind_of_row row) p) n) c.args.after
    (λ p n. place_marked m (own (cell_of row p)) n) (λ p n. ap (λ q. place_marked m q n) (own_at row p)) c.args.waiting.now
    c.join_in.new.waiting c.args.indices.now h)
    joined
