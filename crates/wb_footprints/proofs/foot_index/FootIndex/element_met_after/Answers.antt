use Rattle.std.proofs.Common.{◌||◌, Some, refl}
use Rattle.wb_cells.specs.declared.cells.cell.Cell.TheVariants.{Element}
use Rattle.wb_footprints.specs.declared.places.part.Slot.TheVariants as slot
use Rattle.wb_footprints.specs.declared.places.part.Part.TheVariants as part
use Rattle.wb_footprints.specs.declared.places.place.Place.TheVariants.{Of}
use Rattle.wb_footprints.specs.Places.{place_marked}
use Rattle.wb_footprints.specs.Footprints.{met_by}
use Rattle.wb_footprints.proofs.Meeting.{least_like, met_marked}
use Rattle.wb_footprints.proofs.foot_index.FootIndex.element_met_after.Goals as goal

pub returns : goal.returns
returns c = λ footprints h.
    let m = c.args.self.now in
    let x = Element c.args.array.now c.args.index.now in
    let place = Of c.args.array.now (part.Element c.args.index.now) in
    let family = Of c.args.array.now (part.Slot slot.Elements) in
    let t = place_marked m.touched place in
    let r = place_marked m.read place in
    let f = place_marked m.read family in
    let first = c.earlier-first.ensures.least t r c.args.after c.part_after-touched.ensures c.part_after.ensures in
    least_like (λ n. (t n || r n) || f n) (λ n. met_by (footprints n) x) c.args.after c.earlier.result
    (λ n. met_marked m footprints h n x place (Some family) refl refl)
    (c.earlier.ensures.least (λ n. t n || r n) f c.args.after first c.part_after-2.ensures)
