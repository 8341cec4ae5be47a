use Rattle.std.proofs.Common.{◌≡◌, ◌+◌, ◌++◌, take, ap, sym, ◌∙◌, arith}
use Rattle.wb_cells.specs.Reads.{all_read, read_in}
use Rattle.wb_footprints.specs.Footprints.{touched_under}
use Rattle.wb_footprints.proofs.InRuns.{all_more}
use Rattle.wb_footprints.proofs.Meeting.{under_both}
use Rattle.wb_footprints.proofs.foot_index.FootIndex.first_to_touch_runs.Goals as goal

pub loop-run-preserved : goal.loop-run-preserved
loop-run-preserved c =
    let i = c.loop-run.run-index in
    let rs = c.args.runs.now in
    let r = c.run-item.result in
    let more : all_read (take (i + 1) rs) ≡ all_read (take i rs) ++ read_in r = all_more read_in rs i r (omega arith) ∙
    ap (λ x. all_read (take i rs) ++ read_in x) (sym c.run-item.is) in
    λ footprints h. under_both footprints c.args.after (all_read (take i rs)) (read_in r) (all_read (take (i + 1) rs)) more c.earlier-first.result
    (c.earlier-first.ensures.least (λ n. touched_under (footprints n) (all_read (take i rs))) (λ n. touched_under (footprints n) (read_in r)) c.args.after
    (c.loop-run.invariant footprints h) (c.first_to_touch_run.ensures footprints h))
