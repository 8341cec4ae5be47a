use Rattle.std.proofs.Common.{[], ◌∷◌}
use Rattle.wb_footprints.specs.Places.{place_of}
use Rattle.wb_footprints.specs.Footprints.{touched_by, touched_under}
use Rattle.wb_footprints.proofs.Meeting.{least_like}
use Rattle.wb_footprints.proofs.ReadPlaces.{or_false}
use Rattle.wb_footprints.proofs.foot_index.FootIndex.first_to_touch_one.Goals as goal

pub returns : goal.returns
returns c = λ footprints h.
    let p = c.args.pattern.now in
    least_like (λ n. touched_by (footprints n) (place_of p)) (λ n. touched_under (footprints n) (p ∷ [])) c.args.after c.touched_after.result
    (λ n. or_false (touched_by (footprints n) (place_of p))) (c.touched_after.ensures footprints h)
