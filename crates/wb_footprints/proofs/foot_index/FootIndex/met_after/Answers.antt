use Rattle.std.proofs.Common.{◌||◌}
use Rattle.wb_footprints.specs.Places.{place_marked}
use Rattle.wb_footprints.specs.Footprints.{met_by}
use Rattle.wb_footprints.proofs.Meeting.{least_above, least_like, met_marked, met_alone}
use Rattle.wb_footprints.proofs.foot_index.FootIndex.met_after.Goals as goal

pub returns-in-Some-clause-least : goal.returns-in-Some-clause-least
returns-in-Some-clause-least c = λ footprints h.
    let t = place_marked c.args.self.now.touched c.own-place.result in
    let r = place_marked c.args.self.now.read c.own-place.result in
    let f = place_marked c.args.self.now.read c.in-Some.family in
    let first = c.earlier-first.ensures.least t r c.args.after c.least_after-touched.ensures c.least_after.ensures in
    least_like (λ n. (t n || r n) || f n) (λ n. met_by (footprints n) c.args.cell.now) c.args.after c.earlier.result
    (λ n. met_marked c.args.self.now footprints h n c.args.cell.now c.own-place.result _ c.own-place.ensures c.in-Some.ensures)
    (c.earlier.ensures.least (λ n. t n || r n) f c.args.after first c.least_after-in-Some.ensures)

pub returns-in-None-clause-least : goal.returns-in-None-clause-least
returns-in-None-clause-least c = λ footprints h.
    let t = place_marked c.args.self.now.touched c.own-place.result in
    let r = place_marked c.args.self.now.read c.own-place.result in
    let first = c.earlier-first.ensures.least t r c.args.after c.least_after-touched.ensures c.least_after.ensures in
    least_like (λ n. t n || r n) (λ n. met_by (footprints n) c.args.cell.now) c.args.after c.earlier-first.result
    (λ n. met_alone c.args.self.now footprints h n c.args.cell.now c.own-place.result c.own-place.ensures c.in-None.ensures) first

pub returns-in-Some-clause-above : goal.returns-in-Some-clause-above
returns-in-Some-clause-above c = c.earlier.ensures.above c.args.after
    (c.earlier-first.ensures.above c.args.after (least_above _ c.args.after c.least_after-touched.result c.least_after-touched.ensures)
    (least_above _ c.args.after c.least_after.result c.least_after.ensures))
    (least_above _ c.args.after c.least_after-in-Some.result c.least_after-in-Some.ensures)

pub returns-in-None-clause-above : goal.returns-in-None-clause-above
returns-in-None-clause-above c = c.earlier-first.ensures.above c.args.after
    (least_above _ c.args.after c.least_after-touched.result c.least_after-touched.ensures)
    (least_above _ c.args.after c.least_after.result c.least_after.ensures)
