use Rattle.std.proofs.Common.{true, false, ◌||◌, refl, sym, ap, ◌∙◌}
use Rattle.wb_cells.specs.declared.cells.cell.Cell.TheVariants.{Element, Object}
use Rattle.wb_footprints.specs.declared.places.marking.Marking.TheVariants.{Families}
use Rattle.wb_footprints.specs.Places.{own, is_same_place, place_marked}
use Rattle.wb_footprints.specs.Footprints.{at_cell, touched_by, set_footprint}
use Rattle.wb_footprints.proofs.ReadMarks.{reads_came, same_reads}
use Rattle.wb_footprints.proofs.ReadPlaces.{or_false}
use Rattle.wb_footprints.proofs.Taking.{on_ok, on_err, sets_stays, undone, came}
use Rattle.wb_footprints.proofs.foot_index.FootIndex.add_set.Goals as goal

pub returns-then-is_err-clause-err : goal.returns-then-is_err-clause-err
returns-then-is_err-clause-err c = λ footprints h had.
    let x = Element c.args.array.now c.args.index.now in
    record {
      touched = undone touched_by (λ q. refl) footprints (at_cell Families x) c.args.number (place_marked c.args.self.now.touched)
          (place_marked c.mark_element.new.marks) (place_marked c.unmark_element.new.marks) had h.touched
          (on_err c.mark_element.result (sym c.is_err.ensures.value ∙ c.if-is_err.true) c.mark_element.ensures.err) c.unmark_element.ensures;
      read = h.read;
    }

pub returns-then-is_err-2-clause-err : goal.returns-then-is_err-2-clause-err
returns-then-is_err-2-clause-err c = λ footprints h had.
    let x = Element c.args.array.now c.args.index.now in
    record {
      touched = undone touched_by (λ q. refl) footprints (at_cell Families x) c.args.number (place_marked c.args.self.now.touched)
          (place_marked c.mark_element.new.marks) (place_marked c.unmark_element-then-is_err-2.new.marks) had h.touched
          (sets_stays (place_marked c.args.self.now.touched) (place_marked c.mark_element.new.marks) (at_cell Families x) c.args.number true
          (on_ok c.mark_element.result (sym c.is_err.ensures.value ∙ c.if-is_err.false) c.mark_element.ensures.ok)) c.unmark_element-then-is_err-2.ensures;
      read = same_reads c.args.self.now.read c.add_part.new.self footprints
          (on_err c.add_part.result (sym c.is_err-2.ensures.value ∙ c.if-is_err-2.true) c.add_part.ensures.err) h.read;
    }

pub returns-clause-ok : goal.returns-clause-ok
returns-clause-ok c = λ footprints before h had.
    let x = Element c.args.array.now c.args.index.now in
    let f = set_footprint c.args.array.now c.args.index.now before in
    let object = is_same_place (own (Object c.args.array.now)) in
    let element = is_same_place (own x) in
    record {
      touched = came touched_by (λ q. refl) footprints (at_cell Families x) c.args.number (place_marked c.args.self.now.touched)
          (place_marked c.mark_element.new.marks) f (λ q. or_false (at_cell Families x q)) had h.touched
          (on_ok c.mark_element.result (sym c.is_err.ensures.value ∙ c.if-is_err.false) c.mark_element.ensures.ok);
      read = reads_came footprints c.args.number c.args.self.now.read c.add_part.new.self f object
          (λ q here. ap (λ b. b || (element q || false)) here)
          (λ q read. ap (λ b. object q || b) (or_false (element q || false)) ∙ read)
          had h.read (on_ok c.add_part.result (sym c.is_err-2.ensures.value ∙ c.if-is_err-2.false) c.add_part.ensures.ok);
    }
