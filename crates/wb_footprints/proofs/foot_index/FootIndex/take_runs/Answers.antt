use Rattle.std.proofs.Common.{◌++◌, refl, sym, ap, ◌∙◌}
use Rattle.wb_cells.specs.Reads.{patterns_of}
use Rattle.wb_cells.specs.Runs.{all_changes}
use Rattle.wb_footprints.specs.declared.places.marking.Marking.TheVariants.{Own, Families}
use Rattle.wb_footprints.specs.Places.{place_marked}
use Rattle.wb_footprints.specs.Footprints.{marked_at, read_at, touched_by, footprint}
use Rattle.wb_footprints.proofs.ReadMarks.{reads_taken}
use Rattle.wb_footprints.proofs.ReadPlaces.{alike_marked, both_cleared, cells_read}
use Rattle.wb_footprints.proofs.Setting.{clears_like}
use Rattle.wb_footprints.proofs.Taking.{taken}
use Rattle.wb_footprints.proofs.foot_index.FootIndex.take_runs.Goals as goal

pub returns : goal.returns
returns c = λ footprints before h alike had.
    let rs = c.args.reads.now in
    let xs = all_changes c.args.runs.now in
    let f = footprint (rs ++ patterns_of before) before in
    record {
      touched = taken touched_by (λ q. refl) footprints (marked_at Families xs) c.args.number (place_marked c.args.self.now.touched)
          (place_marked c.unmark_runs.new.marks) f (alike_marked Families before xs alike) had h.touched c.unmark_runs.ensures;
      read = reads_taken footprints c.args.number c.args.self.now.read c.unmark_runs-2.new.marks f had h.read
          (both_cleared (place_marked c.args.self.now.read) (place_marked c.unread_each.new.marks) (place_marked c.unmark_runs-2.new.marks) c.args.number
          rs (patterns_of before) (rs ++ patterns_of before) refl c.unread_each.ensures
          (clears_like (place_marked c.unread_each.new.marks) (place_marked c.unmark_runs-2.new.marks) (marked_at Own xs) (read_at (patterns_of before))
          c.args.number (λ q. cells_read xs q ∙ ap (λ l. read_at l q) (sym alike)) c.unmark_runs-2.ensures));
    }
