use Rattle.std.proofs.Common.{arith, take}
use Rattle.wb_footprints.specs.Places.{place_of}
use Rattle.wb_footprints.specs.Footprints.{touched_by, touched_under}
use Rattle.wb_footprints.proofs.Meeting.{touch_more}
use Rattle.wb_footprints.proofs.foot_index.FootIndex.first_to_touch.Goals as goal

pub loop-x-preserved : goal.loop-x-preserved
loop-x-preserved c = λ footprints h. touch_more footprints c.args.after c.args.reads.now c.loop-x.x-index c.x-item.result (omega arith) c.x-item.result
    c.x-item.is c.earlier-first.result (c.earlier-first.ensures.least (λ n. touched_under (footprints n) (take c.loop-x.x-index c.args.reads.now))
    (λ n. touched_by (footprints n) (place_of c.x-item.result)) c.args.after (c.loop-x.invariant footprints h) (c.touched_after.ensures footprints h))
