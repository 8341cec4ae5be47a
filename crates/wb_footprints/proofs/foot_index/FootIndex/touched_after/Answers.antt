use Rattle.std.proofs.Common.{sym, ◌∙◌, ap}
use Rattle.wb_footprints.specs.Places.{place_marked, place_of}
use Rattle.wb_footprints.specs.Footprints.{touched_by}
use Rattle.wb_footprints.proofs.Meeting.{least_like}
use Rattle.wb_footprints.proofs.foot_index.FootIndex.touched_after.Goals as goal

pub returns : goal.returns
returns c = λ footprints h. least_like (place_marked c.args.self.now.touched c.place_of.result) (λ n. touched_by (footprints n) (place_of c.args.pattern.now))
    c.args.after c.least_after.result (λ n. ap (touched_by (footprints n)) (sym c.place_of.ensures) ∙ sym (h.touched c.place_of.result n)) c.least_after.ensures
