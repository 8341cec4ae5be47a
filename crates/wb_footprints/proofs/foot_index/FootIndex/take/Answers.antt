use Rattle.std.proofs.Common.{refl, ◌++◌}
use Rattle.wb_cells.specs.Reads.{all_read}
use Rattle.wb_footprints.specs.Places.{place_marked}
use Rattle.wb_footprints.specs.Footprints.{touched_by, touched_at, footprint}
use Rattle.wb_footprints.proofs.ReadMarks.{reads_taken}
use Rattle.wb_footprints.proofs.Taking.{taken}
use Rattle.wb_footprints.proofs.foot_index.FootIndex.take.Goals as goal

pub returns : goal.returns
returns c = λ footprints h had.
    let f = footprint (c.args.reads.now ++ all_read c.args.runs.now) c.args.before.now in
    record {
      touched = taken touched_by (λ q. refl) footprints (touched_at c.args.before.now) c.args.number (place_marked c.args.self.now.touched)
          (place_marked c.unmark_all.new.marks) f (λ q. refl) had h.touched c.unmark_all.ensures;
      read = reads_taken footprints c.args.number c.args.self.now.read c.unmark_reads.new.marks f had h.read c.unmark_reads.ensures;
    }
