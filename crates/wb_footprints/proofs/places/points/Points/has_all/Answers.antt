use Rattle.std.proofs.Common.{◌≡◌, ◌<◌, ◌&&◌, length, get_or, sym, ap, ◌∙◌, arith}
use Rattle.std.proofs.lemmas.List.Folds.{list_all_more}
use Rattle.std.proofs.lemmas.Option.{get_or_from_slice_get}
use Rattle.wb_footprints.specs.Points.{in_points}
use Rattle.wb_footprints.proofs.places.points.Points.has_all.Goals as goal

pub loop-at-preserved : goal.loop-at-preserved
loop-at-preserved c =
    let all = c.args.others.now in
    let f = in_points c.args.self.now in
    let i = c.loop-at.at in
    let p = c.point.result in
    let low : i < length all = omega (arith, c.loop-at-test.true, c.len-at-end.ensures.value) in
    let is : p ≡ get_or all i p = sym (get_or_from_slice_get all i p p c.point.ensures) in
    list_all_more f all i p low
    ∙ ap (λ b. b && f (get_or all i p)) c.loop-at.invariant
    ∙ ap f (sym is)
    ∙ sym c.contains.ensures
    ∙ c.if-not-contains.false
