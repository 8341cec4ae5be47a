use Rattle.std.proofs.Common.{◌≡◌, ◌+◌, ◌++◌, take, ap, sym, ◌∙◌, arith}
use Rattle.wb_cells.specs.Reads.{all_read, read_in}
use Rattle.wb_footprints.specs.Places.{place_marked}
use Rattle.wb_footprints.proofs.InRuns.{all_more}
use Rattle.wb_footprints.proofs.ReadPlaces.{both_cleared}
use Rattle.wb_footprints.proofs.marks.reading.unread_runs.Goals as goal

pub loop-run-preserved : goal.loop-run-preserved
loop-run-preserved c =
    let i = c.loop-run.run-index in
    let rs = c.args.runs.now in
    let r = c.run-item.result in
    let more : all_read (take (i + 1) rs) ≡ all_read (take i rs) ++ read_in r = all_more read_in rs i r (omega arith) ∙
    ap (λ x. all_read (take i rs) ++ read_in x) (sym c.run-item.is) in
    both_cleared (place_marked c.args.marks.now) (place_marked c.loop-run.marks) (place_marked c.unread_run.new.marks) c.args.number
    (all_read (take i rs)) (read_in r) (all_read (take (i + 1) rs)) more c.loop-run.invariant c.unread_run.ensures
