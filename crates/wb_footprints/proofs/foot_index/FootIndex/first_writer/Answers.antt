use Rattle.std.proofs.Common.{◌++◌, refl}
use Rattle.wb_cells.specs.Reads.{all_read}
use Rattle.wb_footprints.specs.Footprints.{touched_under, touched_one_of}
use Rattle.wb_footprints.proofs.Meeting.{least_like, named_under, under_both}
use Rattle.wb_footprints.proofs.foot_index.FootIndex.first_writer.Goals as goal

pub returns : goal.returns
returns c = λ footprints h.
    let ps = c.args.reads.now in
    let qs = all_read c.args.runs.now in
    least_like (λ n. touched_under (footprints n) (ps ++ qs)) (λ n. touched_one_of (footprints n) (ps ++ qs)) c.args.after c.earlier.result
    (λ n. named_under (ps ++ qs) (footprints n))
    (under_both footprints c.args.after ps qs _ refl c.earlier.result
    (c.earlier.ensures.least (λ n. touched_under (footprints n) ps) (λ n. touched_under (footprints n) qs) c.args.after
    (c.first_to_touch.ensures footprints h) (c.first_to_touch_runs.ensures footprints h)))
