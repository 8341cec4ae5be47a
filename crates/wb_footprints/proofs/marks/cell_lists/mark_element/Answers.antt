use Rattle.std.proofs.Common.{true, refl}
use Rattle.std.proofs.lemmas.Result.{on_ok_weaker}
use Rattle.wb_cells.specs.declared.cells.cell.Cell.TheVariants.{Element}
use Rattle.wb_footprints.specs.declared.places.marking.Marking.TheVariants.{Families}
use Rattle.wb_footprints.specs.declared.places.part.Slot.TheVariants as slot
use Rattle.wb_footprints.specs.declared.places.part.Part.TheVariants as part
use Rattle.wb_footprints.specs.declared.places.place.Place.TheVariants.{Of}
use Rattle.wb_footprints.specs.Places.{place_marked}
use Rattle.wb_footprints.proofs.OfCells.{cell_set}
use Rattle.wb_footprints.proofs.marks.cell_lists.mark_element.Goals as goal

pub returns-clause-ok : goal.returns-clause-ok
returns-clause-ok c =
    let a = c.args.array.now in
    let i = c.args.index.now in
    on_ok_weaker c.add_part-2.result
    (λ h. cell_set (place_marked c.args.marks.now) (place_marked c.add_part.new.self) (place_marked c.add_part-2.new.self) c.args.number true Families
    (Element a i) (Of a (part.Element i)) (Of a (part.Slot slot.Elements)) refl refl c.in_ok-add_part.ensures.ok h)
    c.add_part-2.ensures.ok
