use Rattle.std.proofs.Common.{◌||◌, sym, ap, refl}
use Rattle.wb_cells.specs.declared.cells.cell.Cell.TheVariants.{Element, Object}
use Rattle.wb_footprints.specs.declared.places.marking.Marking.TheVariants.{Families}
use Rattle.wb_footprints.specs.Places.{own, is_same_place, place_marked}
use Rattle.wb_footprints.specs.Footprints.{at_cell, touched_by, read_at, element_reads, set_footprint}
use Rattle.wb_footprints.proofs.ReadMarks.{reads_taken}
use Rattle.wb_footprints.proofs.ReadPlaces.{or_false}
use Rattle.wb_footprints.proofs.Setting.{then_clears, clears_like}
use Rattle.wb_footprints.proofs.Taking.{taken}
use Rattle.wb_footprints.proofs.foot_index.FootIndex.take_set.Goals as goal

pub returns : goal.returns
returns c = λ footprints before h had.
    let a = c.args.array.now in
    let i = c.args.index.now in
    let f = set_footprint a i before in
    let object = is_same_place (own (Object a)) in
    let element = is_same_place (own (Element a i)) in
    let old = place_marked c.args.self.now.read in
    let mid = place_marked c.take_part.new.self in
    let new = place_marked c.take_part-2.new.self in
    record {
      touched = taken touched_by (λ q. refl) footprints (at_cell Families (Element a i)) c.args.number (place_marked c.args.self.now.touched)
          (place_marked c.unmark_element.new.marks) f (λ q. or_false (at_cell Families (Element a i) q)) had h.touched c.unmark_element.ensures;
      read = reads_taken footprints c.args.number c.args.self.now.read c.take_part-2.new.self f had h.read
          (clears_like old new (λ q. object q || element q) (read_at (element_reads a i)) c.args.number
          (λ q. ap (λ b. object q || b) (sym (or_false (element q))))
          (then_clears old mid new object element c.args.number c.take_part.ensures c.take_part-2.ensures));
    }
