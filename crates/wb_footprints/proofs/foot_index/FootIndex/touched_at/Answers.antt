use Rattle.std.proofs.Common.{sym, ap, ◌∙◌}
use Rattle.wb_footprints.specs.Places.{own, place_marked}
use Rattle.wb_footprints.specs.Footprints.{touched_by}
use Rattle.wb_footprints.proofs.Meeting.{least_like}
use Rattle.wb_footprints.proofs.foot_index.FootIndex.touched_at.Goals as goal

pub returns : goal.returns
returns c = λ footprints h.
    let place = c.own.result in
    least_like (place_marked c.args.self.now.touched place) (λ n. touched_by (footprints n) (own c.args.cell.now)) c.args.after c.least_after.result
    (λ n. ap (touched_by (footprints n)) (sym c.own.ensures) ∙ sym (h.touched place n)) c.least_after.ensures
