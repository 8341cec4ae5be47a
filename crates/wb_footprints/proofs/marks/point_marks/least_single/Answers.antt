use Rattle.std.proofs.Common.{◌≡◌, ℕ, ℤ, Bool, true, false, Option, ◌∷◌, [], ◌≤◌, length, take, refl, sym, ap, ◌∙◌, subst, arith, rules, w64}
use Rattle.std.proofs.lemmas.Option.{get_or_from_slice_get}
use Rattle.std.proofs.lemmas.Int.{to_z-of_z}
use Rattle.std.specs.List.{list_any}
use Rattle.std.specs.Ordering.{eq_by_cmp, int_cmp}
use Rattle.wb_footprints.specs.Relation.{IsLeastAfter}
use Rattle.std.specs.declared.cmp.Ordering.TheVariants.{Less}
use Rattle.wb_footprints.specs.Marks.{pair_cmp, marked}
use Rattle.wb_footprints.specs.PointMarks.{at_single}
use Rattle.wb_footprints.specs.Points.{Coordinates, point_cmp}
use Rattle.wb_footprints.proofs.InBlocks.{points_total, points_exact}
use Rattle.wb_footprints.proofs.AtPoints.{all_least}
use Rattle.wb_footprints.proofs.AtMarks.{least_here, next_least, none_left, past_one}
use Rattle.wb_footprints.proofs.Singles.{is_single, none_at_others, none_before, none_behind, single_up}
use Rattle.wb_footprints.proofs.marks.point_marks.least_single.Goals as goal

pub loop-at-preserved-in-None : goal.loop-at-preserved-in-None
loop-at-preserved-in-None c =
    let m = c.args.marks.now in
    let f : Coordinates → ℕ → Bool = at_single m in
    let ps = c.args.points.now in
    let p = c.point-point.result in
    let is = sym (get_or_from_slice_get c.args.points.now c.loop-at.at c.point-point.result c.point-point.result c.point-point.ensures) in
    let below = rw c.len-count.ensures.value at c.loop-at-test.true in
    record {
      within = omega (arith, below);
      least = past_one point_cmp points_total points_exact f c.args.after ps c.loop-at.at p c.loop-at.first below is (λ n up. none_at_others m p n (sym c.coordinate_of.ensures ∙ c.in-None.is))
          c.loop-at.invariant.least;
    }

pub returns-in-None-first_behind : goal.returns-in-None-first_behind
returns-in-None-first_behind c =
    let m = c.args.marks.now in
    let f : Coordinates → ℕ → Bool = at_single m in
    let p = c.point-point.result in
    let i = c.in-Some.coordinate in
    let single : p ≡ i ∷ [] = is_single p i (sym c.coordinate_of.ensures ∙ c.in-Some.is) in
    let is = sym (get_or_from_slice_get c.args.points.now c.loop-at.at c.point-point.result c.point-point.result c.point-point.ensures) in
    let below = rw c.len-count.ensures.value at c.loop-at-test.true in
    let none : (q : Coordinates) (n : ℕ) → pair_cmp point_cmp (p, c.args.after) (q, n) ≡ Less → f q n ≡ false =
    subst (λ (x : Coordinates). (q : Coordinates) (n : ℕ) → pair_cmp point_cmp (x, c.args.after) (q, n) ≡ Less → f q n ≡ false) (sym single)
    (none_behind m i c.args.after (subst (λ (v : ℤ). (x : ℤ) (n : ℕ) → pair_cmp int_cmp (v, c.args.after) (x, n) ≡ Less → marked int_cmp m x n ≡ false)
    (to_z-of_z w64 i (search rules)) c.in-None-first_behind.ensures.none)) in
    none_left point_cmp points_total points_exact f c.args.after c.args.points.now c.loop-at.at p c.loop-at.first c.len-count.ensures.ascending below is none c.loop-at.invariant.least

pub loop-at-preserved : goal.loop-at-preserved
loop-at-preserved c =
    let m = c.args.marks.now in
    let f : Coordinates → ℕ → Bool = at_single m in
    let ps = c.args.points.now in
    let after = c.args.after in
    let at = c.loop-at.at in
    let p = c.point-point.result in
    let i = c.in-Some.coordinate in
    let single : p ≡ i ∷ [] = is_single p i (sym c.coordinate_of.ensures ∙ c.in-Some.is) in
    let mark = c.in-Some-first_behind.mark in
    let k = c.single-next.result in
    let next : k ≡ mark.0 ∷ [] = c.single-next.ensures ∙ ap (λ v. v ∷ []) (to_z-of_z w64 mark.0 (search rules)) in
    let fits = to_z-of_z w64 i (search rules) in
    let behind : pair_cmp int_cmp (i, after) (mark.0, mark.1) ≡ Less =
    subst (λ (v : ℤ). pair_cmp int_cmp (v, after) (mark.0, mark.1) ≡ Less) fits c.in-Some-first_behind.ensures.behind in
    let first : (x : ℤ) (n : ℕ) → pair_cmp int_cmp (i, after) (x, n) ≡ Less → pair_cmp int_cmp (x, n) (mark.0, mark.1) ≡ Less → marked int_cmp m x n ≡ false =
    subst (λ (v : ℤ). (x : ℤ) (n : ℕ) → pair_cmp int_cmp (v, after) (x, n) ≡ Less → pair_cmp int_cmp (x, n) (mark.0, mark.1) ≡ Less →
    marked int_cmp m x n ≡ false) fits c.in-Some-first_behind.ensures.first in
    let is = sym (get_or_from_slice_get c.args.points.now c.loop-at.at c.point-point.result c.point-point.result c.point-point.ensures) in
    let below = rw c.len-count.ensures.value at c.loop-at-test.true in
    let up : pair_cmp point_cmp (p, after) (k, mark.1) ≡ Less = rw (single, next) (single_up i mark.0 after mark.1 behind) in
    let its : f k mark.1 ≡ true = rw next c.in-Some-first_behind.ensures.mark in
    let none : (q : Coordinates) (n : ℕ) → pair_cmp point_cmp (p, after) (q, n) ≡ Less → pair_cmp point_cmp (q, n) (k, mark.1) ≡ Less → f q n ≡ false =
    subst (λ (x : Coordinates). (q : Coordinates) (n : ℕ) → pair_cmp point_cmp (x, after) (q, n) ≡ Less → pair_cmp point_cmp (q, n) (k, mark.1) ≡ Less →
    f q n ≡ false) (sym single) (subst (λ (y : Coordinates). (q : Coordinates) (n : ℕ) → pair_cmp point_cmp (i ∷ [], after) (q, n) ≡ Less →
    pair_cmp point_cmp (q, n) (y, mark.1) ≡ Less → f q n ≡ false) (sym next) (none_before m i after mark.0 mark.1 first)) in
    let here : IsLeastAfter (f p) after c.number_at.result = subst (λ (r : Option ℕ). IsLeastAfter (f p) after r) (sym c.number_at.ensures)
    (least_here point_cmp points_total points_exact f after p k mark.1 up its none (eq_by_cmp point_cmp k p) refl) in
    record {
      within = c.place_from-at.ensures.within;
      least = next_least point_cmp points_total points_exact f after ps at c.place_from-at.result p k mark.1 c.len-count.ensures.ascending below is c.place_from-at.ensures.from
          c.place_from-at.ensures.within none c.place_from-at.ensures.below c.earlier-first.result
          (c.earlier-first.ensures.least (λ n. list_any (λ q. f q n) (take at ps)) (f p) after c.loop-at.invariant.least here);
    }

pub returns : goal.returns
returns c =
    let ps = c.args.points.now in
    let test = rw c.len-count.ensures.value at c.loop-at-test.false in
    let high : length ps ≤ c.loop-at.at = omega (arith, test) in
    all_least (at_single c.args.marks.now) ps c.loop-at.at c.args.after c.loop-at.first high c.loop-at.invariant.least
