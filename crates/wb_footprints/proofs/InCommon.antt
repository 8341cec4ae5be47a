-- The points of rectangles: which are among them, and whether two have one in common.
use Rattle.std.proofs.Common.{◌≡◌, ◌↔◌, Bool, ◌||◌, true, false, Decides, ℤ, List, [], ◌∷◌, is_some, length, slice_get, refl, sym, ap, subst, ◌∙◌, arith}
use Rattle.std.specs.List.{Contains, list_any}
use Rattle.std.specs.Ordering.{is_eq, eq_by_cmp}
use Rattle.std.specs.declared.cmp.Ordering.{Ordering}
use Rattle.std.specs.declared.cmp.Ordering.TheVariants.{Less, Equal, Greater}
use Rattle.std.proofs.lemmas.Cmp.{eq_by_cmp_equiv}
use Rattle.std.proofs.lemmas.List.Folds.{Any-from_list_any, list_any_at}
use Rattle.wb_rect.specs.Product.{product}
use Rattle.wb_cells.specs.declared.values.index.Index.TheVariants.{Point}
use Rattle.wb_cells.specs.Shapes.{indices}
use Rattle.wb_cells.specs.WellFormed.{has}
use Rattle.wb_cells.proofs.Inside.{has_point, length-inside}
use Rattle.wb_footprints.specs.Points.{Coordinates, point_cmp, in_points}
use Rattle.wb_footprints.proofs.InBlocks.{points_total, points_exact}
use Rattle.wb_footprints.proofs.Joining.{same_from}
use Rattle.wb_footprints.proofs.Meeting.{any_swap, any_like}

equal_from : (o : Ordering) → is_eq o ≡ true → o ≡ Equal
equal_from Less e = cc
equal_from Equal e = refl
equal_from Greater e = cc

-- points that compare as equal are one
pub same_points : (a b : Coordinates) → Decides (eq_by_cmp point_cmp a b) (a ≡ b)
same_points a b = (
  λ e. points_exact a b (equal_from (point_cmp a b) e),
  λ same. subst (λ (p : Coordinates). eq_by_cmp point_cmp a p ≡ true) same ((eq_by_cmp_equiv points_total).refl a),
)

-- ---- a point among points

contained : (ps : List Coordinates) (p : Coordinates) → in_points ps p ≡ true → Contains ps p
contained ps p e =
    let one = Any-from_list_any (λ q. eq_by_cmp point_cmp q p) ps e in
    let same : one.1 ≡ p = points_exact one.1 p (equal_from (point_cmp one.1 p) one.4) in
    subst (λ (q : Coordinates). Contains ps q) same (one.0, one.2, one.3)

among_them : (ps : List Coordinates) (p : Coordinates) → Contains ps p → in_points ps p ≡ true
among_them ps p h = list_any_at (λ q. eq_by_cmp point_cmp q p) ps h.0 p h.1 (ap (λ q. eq_by_cmp point_cmp q p) h.2 ∙ (eq_by_cmp_equiv points_total).refl p)

-- an index of a rectangle is one of its points
pub has_among : (rs : List (List ℤ)) (p : Coordinates) → has (indices rs) (Point p) ≡ in_points (product rs) p
has_among rs p = same_from (has (indices rs) (Point p)) (in_points (product rs) p)
    (λ e. among_them (product rs) p ((has_point rs p).0 e))
    (λ e. (has_point rs p).1 (contained (product rs) p e))

-- ---- a point in common

-- the same both ways
pub shared_back : (ps qs : List Coordinates) → list_any (in_points ps) qs ≡ list_any (in_points qs) ps
shared_back ps qs =
    any_swap (λ q p. eq_by_cmp point_cmp p q) qs ps
    ∙ any_like (λ p. list_any (λ q. eq_by_cmp point_cmp p q) qs) (in_points qs) ps
    (λ p. any_like (λ q. eq_by_cmp point_cmp p q) (λ q. eq_by_cmp point_cmp q p) qs (λ q. (eq_by_cmp_equiv points_total).symm p q))

or_false : (a : Bool) → a || false ≡ a
or_false true = refl
or_false false = refl

-- a point alone
pub shared_one : (ps : List Coordinates) (p : Coordinates) → in_points ps p ≡ list_any (in_points (p ∷ [])) ps
shared_one ps p = sym (or_false (in_points ps p)) ∙ shared_back ps (p ∷ [])

-- two lists have a point in common exactly where the list of all those that both have is not empty
pub shared_first : (zs ps qs : List Coordinates) → ((i : Coordinates) → Contains zs i ↔ (Contains ps i × Contains qs i)) →
    is_some (slice_get zs 0) ≡ list_any (in_points ps) qs
shared_first zs ps qs h = same_from (is_some (slice_get zs 0)) (list_any (in_points ps) qs) (there zs h)
    (λ e. let one = Any-from_list_any (in_points ps) qs e in
    some zs one.1 ((h one.1).1 (contained ps one.1 one.4, (one.0, one.2, one.3))))
  where
    there : (zs : List Coordinates) → ((i : Coordinates) → Contains zs i ↔ (Contains ps i × Contains qs i)) → is_some (slice_get zs 0) ≡ true →
        list_any (in_points ps) qs ≡ true
    there [] h e = cc
    there (z ∷ zs) h e =
        let both = (h z).0 (0, omega arith, refl) in
        list_any_at (in_points ps) qs both.1.0 z both.1.1 (ap (in_points ps) both.1.2 ∙ among_them ps z both.0)

    some : (zs : List Coordinates) (i : Coordinates) → Contains zs i → is_some (slice_get zs 0) ≡ true
    some [] i c = absurd (omega (arith, c.1))
    some (z ∷ zs) i c = refl

-- rectangles of different ranks have none
pub none_shared : (rs ts : List (List ℤ)) → (length rs ≡ length ts → ⊥) → false ≡ list_any (in_points (product rs)) (product ts)
none_shared rs ts other = sym (same_from (list_any (in_points (product rs)) (product ts)) false
    (λ e. let one = Any-from_list_any (in_points (product rs)) (product ts) e in
    let long : length one.1 ≡ length rs = length-inside rs one.1 (has_among rs one.1 ∙ one.4) in
    let wide : length one.1 ≡ length ts = length-inside ts one.1 ((has_point ts one.1).1 (one.0, one.2, one.3)) in
    absurd (other (sym long ∙ wide)))
    (λ e. cc))
