use Rattle.std.proofs.Common.{◌++◌, true, ◌||◌, refl, sym, ap, ◌∙◌}
use Rattle.wb_cells.specs.Reads.{patterns_of}
use Rattle.wb_cells.specs.Runs.{all_changes}
use Rattle.wb_footprints.specs.declared.places.marking.Marking.TheVariants.{Own, Families}
use Rattle.wb_footprints.specs.Places.{place_marked}
use Rattle.wb_footprints.specs.Footprints.{marked_at, read_at, touched_by, footprint}
use Rattle.wb_footprints.proofs.ReadMarks.{reads_came, reads_undone}
use Rattle.wb_footprints.proofs.ReadPlaces.{alike_marked, then_cells}
use Rattle.wb_footprints.proofs.Taking.{on_ok, on_err, sets_stays, undone, came}
use Rattle.wb_footprints.proofs.foot_index.FootIndex.add_runs.Goals as goal

pub returns-then-is_err-clause-err : goal.returns-then-is_err-clause-err
returns-then-is_err-clause-err c = λ footprints h had. record {
  touched = undone touched_by (λ q. refl) footprints (marked_at Families (all_changes c.args.runs.now)) c.args.number
      (place_marked c.args.self.now.touched) (place_marked c.mark_runs.new.marks) (place_marked c.unmark_runs.new.marks) had h.touched
      (on_err c.mark_runs.result (sym c.is_err.ensures.value ∙ c.if-is_err.true) c.mark_runs.ensures.err) c.unmark_runs.ensures;
  read = h.read;
}

pub returns-then-is_err-2-clause-err : goal.returns-then-is_err-2-clause-err
returns-then-is_err-2-clause-err c = λ footprints h had.
    let here = marked_at Families (all_changes c.args.runs.now) in
    record {
      touched = undone touched_by (λ q. refl) footprints here c.args.number (place_marked c.args.self.now.touched)
          (place_marked c.mark_runs.new.marks) (place_marked c.unmark_runs-then-is_err-2.new.marks) had h.touched
          (sets_stays (place_marked c.args.self.now.touched) (place_marked c.mark_runs.new.marks) here c.args.number true
          (on_ok c.mark_runs.result (sym c.is_err.ensures.value ∙ c.if-is_err.false) c.mark_runs.ensures.ok)) c.unmark_runs-then-is_err-2.ensures;
      read = reads_undone footprints c.args.number c.args.self.now.read c.read_each.new.marks c.unread_each.new.marks (read_at c.args.reads.now) had h.read
          (on_err c.read_each.result (sym c.is_err-2.ensures.value ∙ c.if-is_err-2.true) c.read_each.ensures.err) c.unread_each.ensures;
    }

pub returns-clause-ok : goal.returns-clause-ok
returns-clause-ok c = λ footprints before h had alike.
    let rs = c.args.reads.now in
    let xs = all_changes c.args.runs.now in
    let f = footprint (rs ++ patterns_of before) before in
    record {
      touched = came touched_by (λ q. refl) footprints (marked_at Families xs) c.args.number (place_marked c.args.self.now.touched)
          (place_marked c.mark_runs.new.marks) f (alike_marked Families before xs alike) had h.touched
          (on_ok c.mark_runs.result (sym c.is_err.ensures.value ∙ c.if-is_err.false) c.mark_runs.ensures.ok);
      read = reads_came footprints c.args.number c.args.self.now.read c.read_each.new.marks f (read_at rs)
          (λ q here. then_cells rs before q ∙ ap (λ b. b || marked_at Own before q) here)
          (λ q read. sym (then_cells rs before q) ∙ read) had h.read
          (on_ok c.read_each.result (sym c.is_err-2.ensures.value ∙ c.if-is_err-2.false) c.read_each.ensures.ok);
    }
