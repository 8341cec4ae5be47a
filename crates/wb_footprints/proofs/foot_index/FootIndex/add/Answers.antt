use Rattle.std.proofs.Common.{◌++◌, true, ◌||◌, refl, sym, ap, ◌∙◌}
use Rattle.wb_cells.specs.Reads.{all_read}
use Rattle.wb_footprints.specs.Places.{place_marked}
use Rattle.wb_footprints.specs.declared.places.marking.Marking.TheVariants.{Own}
use Rattle.wb_footprints.specs.Footprints.{touched_by, touched_at, marked_at, read_at, footprint}
use Rattle.wb_footprints.proofs.ReadMarks.{reads_came, reads_undone}
use Rattle.wb_footprints.proofs.Taking.{on_ok, on_err, sets_stays, undone, came}
use Rattle.wb_footprints.proofs.foot_index.FootIndex.add.Goals as goal

pub returns-then-is_err-clause-err : goal.returns-then-is_err-clause-err
returns-then-is_err-clause-err c = λ footprints h had. record {
  touched = undone touched_by (λ q. refl) footprints (touched_at c.args.before.now) c.args.number (place_marked c.args.self.now.touched)
      (place_marked c.mark_all.new.marks) (place_marked c.unmark_all.new.marks) had h.touched
      (on_err c.mark_all.result (sym c.is_err.ensures.value ∙ c.if-is_err.true) c.mark_all.ensures.err) c.unmark_all.ensures;
  read = h.read;
}

pub returns-then-is_err-2-clause-err : goal.returns-then-is_err-2-clause-err
returns-then-is_err-2-clause-err c = λ footprints h had. record {
  touched = undone touched_by (λ q. refl) footprints (touched_at c.args.before.now) c.args.number (place_marked c.args.self.now.touched)
      (place_marked c.mark_all.new.marks) (place_marked c.unmark_all-then-is_err-2.new.marks) had h.touched
      (sets_stays (place_marked c.args.self.now.touched) (place_marked c.mark_all.new.marks) (touched_at c.args.before.now) c.args.number true
      (on_ok c.mark_all.result (sym c.is_err.ensures.value ∙ c.if-is_err.false) c.mark_all.ensures.ok)) c.unmark_all-then-is_err-2.ensures;
  read = reads_undone footprints c.args.number c.args.self.now.read c.mark_reads.new.marks c.unmark_reads.new.marks
      (read_at (c.args.reads.now ++ all_read c.args.runs.now)) had h.read
      (on_err c.mark_reads.result (sym c.is_err-2.ensures.value ∙ c.if-is_err-2.true) c.mark_reads.ensures.err) c.unmark_reads.ensures;
}

pub returns-clause-ok : goal.returns-clause-ok
returns-clause-ok c = λ footprints h had.
    let rs = c.args.reads.now ++ all_read c.args.runs.now in
    let f = footprint rs c.args.before.now in
    record {
      touched = came touched_by (λ q. refl) footprints (touched_at c.args.before.now) c.args.number (place_marked c.args.self.now.touched)
          (place_marked c.mark_all.new.marks) f (λ q. refl) had h.touched
          (on_ok c.mark_all.result (sym c.is_err.ensures.value ∙ c.if-is_err.false) c.mark_all.ensures.ok);
      read = reads_came footprints c.args.number c.args.self.now.read c.mark_reads.new.marks f (read_at rs) (λ q here. here)
          (λ q read. ap (λ b. b || marked_at Own c.args.before.now q) read)
          had h.read (on_ok c.mark_reads.result (sym c.is_err-2.ensures.value ∙ c.if-is_err-2.false) c.mark_reads.ensures.ok);
    }
