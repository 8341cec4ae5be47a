use Rattle.std.proofs.Common.{◌≡◌, ℕ, ℤ, Bool, false, ◌∷◌, [], ◌≤◌, length, sym, ap, ◌∙◌, subst, arith, rules, w64}
use Rattle.std.proofs.lemmas.Option.{get_or_from_slice_get}
use Rattle.std.proofs.lemmas.Int.{to_z-of_z}
use Rattle.std.specs.Ordering.{int_cmp}
use Rattle.std.specs.declared.cmp.Ordering.TheVariants.{Less}
use Rattle.wb_footprints.specs.Marks.{pair_cmp, marked}
use Rattle.wb_footprints.specs.PointMarks.{at_single}
use Rattle.wb_footprints.specs.Points.{Coordinates, point_cmp}
use Rattle.wb_footprints.proofs.InBlocks.{points_total, points_exact}
use Rattle.wb_footprints.proofs.Joining.{none_between, none_after}
use Rattle.wb_footprints.proofs.Singles.{is_single, none_before, none_behind}
use Rattle.wb_footprints.proofs.marks.point_marks.next_single.Goals as goal

pub returns-in-None-first_behind-clause-none : goal.returns-in-None-first_behind-clause-none
returns-in-None-first_behind-clause-none c =
    let m = c.args.marks.now in
    let f : Coordinates → ℕ → Bool = at_single m in
    let ps = c.args.points.now in
    let p = c.point-point.result in
    let i = c.in-Some.coordinate in
    let single : p ≡ i ∷ [] = is_single p i (sym c.coordinate_of.ensures ∙ c.in-Some.is) in
    let is = sym (get_or_from_slice_get c.args.points.now c.args.at c.point-point.result c.point-point.result c.point-point.ensures) in
    let high : c.len-count.result ≤ length ps = omega (arith, c.len-count.ensures.value) in
    let none : (q : Coordinates) (n : ℕ) → pair_cmp point_cmp (p, c.args.after) (q, n) ≡ Less → f q n ≡ false =
    subst (λ (x : Coordinates). (q : Coordinates) (n : ℕ) → pair_cmp point_cmp (x, c.args.after) (q, n) ≡ Less → f q n ≡ false) (sym single)
    (none_behind m i c.args.after (subst (λ (v : ℤ). (x : ℤ) (n : ℕ) → pair_cmp int_cmp (v, c.args.after) (x, n) ≡ Less → marked int_cmp m x n ≡ false)
    (to_z-of_z w64 i (search rules)) c.in-None-first_behind.ensures.none)) in
    none_after point_cmp points_total points_exact f c.args.after ps c.args.at c.len-count.result p c.len-count.ensures.ascending c.requires is high none

pub returns-in-Some-first_behind-clause-none : goal.returns-in-Some-first_behind-clause-none
returns-in-Some-first_behind-clause-none c =
    let m = c.args.marks.now in
    let f : Coordinates → ℕ → Bool = at_single m in
    let after = c.args.after in
    let p = c.point-point.result in
    let i = c.in-Some.coordinate in
    let single : p ≡ i ∷ [] = is_single p i (sym c.coordinate_of.ensures ∙ c.in-Some.is) in
    let mark = c.in-Some-first_behind.mark in
    let k = c.single.result in
    let next : k ≡ mark.0 ∷ [] = c.single.ensures ∙ ap (λ v. v ∷ []) (to_z-of_z w64 mark.0 (search rules)) in
    let first : (x : ℤ) (n : ℕ) → pair_cmp int_cmp (i, after) (x, n) ≡ Less → pair_cmp int_cmp (x, n) (mark.0, mark.1) ≡ Less → marked int_cmp m x n ≡ false =
    subst (λ (v : ℤ). (x : ℤ) (n : ℕ) → pair_cmp int_cmp (v, after) (x, n) ≡ Less → pair_cmp int_cmp (x, n) (mark.0, mark.1) ≡ Less →
    marked int_cmp m x n ≡ false) (to_z-of_z w64 i (search rules)) c.in-Some-first_behind.ensures.first in
    let is = sym (get_or_from_slice_get c.args.points.now c.args.at c.point-point.result c.point-point.result c.point-point.ensures) in
    let none : (q : Coordinates) (n : ℕ) → pair_cmp point_cmp (p, after) (q, n) ≡ Less → pair_cmp point_cmp (q, n) (k, mark.1) ≡ Less → f q n ≡ false =
    subst (λ (x : Coordinates). (q : Coordinates) (n : ℕ) → pair_cmp point_cmp (x, after) (q, n) ≡ Less → pair_cmp point_cmp (q, n) (k, mark.1) ≡ Less →
    f q n ≡ false) (sym single) (subst (λ (y : Coordinates). (q : Coordinates) (n : ℕ) → pair_cmp point_cmp (i ∷ [], after) (q, n) ≡ Less →
    pair_cmp point_cmp (q, n) (y, mark.1) ≡ Less → f q n ≡ false) (sym next) (none_before m i after mark.0 mark.1 first)) in
    none_between point_cmp points_total points_exact f after c.args.points.now c.args.at c.place_from.result p k mark.1 c.len-count.ensures.ascending c.requires is
    c.place_from.ensures.within none c.place_from.ensures.below
