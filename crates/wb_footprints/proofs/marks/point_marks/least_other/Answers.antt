use Rattle.std.proofs.Common.{ℕ, Bool, Option, ◌≤◌, length, take, refl, sym, subst, arith}
use Rattle.std.proofs.lemmas.Option.{get_or_from_slice_get}
use Rattle.std.specs.List.{list_any}
use Rattle.std.specs.Ordering.{eq_by_cmp}
use Rattle.wb_footprints.specs.Relation.{IsLeastAfter}
use Rattle.wb_footprints.specs.Marks.{marked}
use Rattle.wb_footprints.specs.Points.{Coordinates, point_cmp}
use Rattle.wb_footprints.proofs.InBlocks.{points_total, points_exact}
use Rattle.wb_footprints.proofs.AtPoints.{all_least}
use Rattle.wb_footprints.proofs.AtMarks.{least_here, next_least, none_left}
use Rattle.wb_footprints.proofs.marks.point_marks.least_other.Goals as goal

pub loop-at-preserved : goal.loop-at-preserved
loop-at-preserved c =
    let f : Coordinates → ℕ → Bool = λ q n. marked point_cmp c.args.marks.now q n in
    let ps = c.args.points.now in
    let after = c.args.after in
    let at = c.loop-at.at in
    let p = c.point-point.result in
    let mark = c.in-Some.mark in
    let is = sym (get_or_from_slice_get c.args.points.now c.loop-at.at c.point-point.result c.point-point.result c.point-point.ensures) in
    let below = rw c.len-count.ensures.value at c.loop-at-test.true in
    let here : IsLeastAfter (f p) after c.number_at.result = subst (λ (r : Option ℕ). IsLeastAfter (f p) after r) (sym c.number_at.ensures)
    (least_here point_cmp points_total points_exact f after p mark.0 mark.1 c.in-Some.ensures.behind c.in-Some.ensures.mark c.in-Some.ensures.first (eq_by_cmp point_cmp mark.0 p) refl) in
    record {
      within = c.place_from-at.ensures.within;
      least = next_least point_cmp points_total points_exact f after ps at c.place_from-at.result p mark.0 mark.1 c.len-count.ensures.ascending below is c.place_from-at.ensures.from
          c.place_from-at.ensures.within c.in-Some.ensures.first c.place_from-at.ensures.below c.earlier-first.result
          (c.earlier-first.ensures.least (λ n. list_any (λ q. f q n) (take at ps)) (f p) after c.loop-at.invariant.least here);
    }

pub returns-in-None : goal.returns-in-None
returns-in-None c =
    let f : Coordinates → ℕ → Bool = λ q n. marked point_cmp c.args.marks.now q n in
    let is = sym (get_or_from_slice_get c.args.points.now c.loop-at.at c.point-point.result c.point-point.result c.point-point.ensures) in
    let below = rw c.len-count.ensures.value at c.loop-at-test.true in
    none_left point_cmp points_total points_exact f c.args.after c.args.points.now c.loop-at.at c.point-point.result c.loop-at.first c.len-count.ensures.ascending below is
    c.in-None.ensures.none c.loop-at.invariant.least

pub returns : goal.returns
returns c =
    let ps = c.args.points.now in
    let test = rw c.len-count.ensures.value at c.loop-at-test.false in
    let high : length ps ≤ c.loop-at.at = omega (arith, test) in
    all_least (λ q n. marked point_cmp c.args.marks.now q n) ps c.loop-at.at c.args.after c.loop-at.first high c.loop-at.invariant.least
