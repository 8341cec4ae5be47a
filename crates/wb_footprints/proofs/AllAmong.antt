-- Points and indices that are all among others.
use Rattle.std.proofs.Common.{◌≡◌, Bool, true, false, ◌&&◌, ◌||◌, List, [], ◌∷◌, map, refl, sym, ap, ◌∙◌}
use Rattle.std.specs.List.{list_all, list_any}
use Rattle.std.specs.Ordering.{eq_by_cmp}
use Rattle.wb_cells.specs.declared.values.index.Index.{Index}
use Rattle.wb_cells.specs.declared.values.index.Index.TheVariants.{Point}
use Rattle.wb_footprints.specs.Points.{Coordinates, point_cmp, in_points}
use Rattle.wb_footprints.proofs.InCommon.{same_points}
use Rattle.wb_footprints.proofs.Meeting.{any_map}

both : (a b : Bool) → a && b ≡ true → (a ≡ true) × (b ≡ true)
both true b e = (refl, e)
both false b e = cc

module _ (f : Coordinates → Bool) where
  -- a test finds a point that is one of some
  found : (ps : List Coordinates) (q : Coordinates) → in_points ps q ≡ true → f q ≡ true → list_any f ps ≡ true
  found [] q there met = cc
  found (p ∷ ps) q there met =
      elim (eq_by_cmp point_cmp p q) as (λ b. eq_by_cmp point_cmp p q ≡ b → (b || in_points ps q) ≡ true → (f p || list_any f ps) ≡ true) [
        | true ↦ λ e h. ap (λ b. b || list_any f ps) (ap f ((same_points p q).0 e) ∙ met)
        | false ↦ λ e h. behind (f p) (found ps q h met)
      ] refl there
    where
      behind : (a : Bool) → list_any f ps ≡ true → (a || list_any f ps) ≡ true
      behind true h = refl
      behind false h = h

  -- and one of them, where all of those are among some
  pub all_found : (ps qs : List Coordinates) → list_all (in_points ps) qs ≡ true → list_any f qs ≡ true → list_any f ps ≡ true
  all_found ps [] all met = cc
  all_found ps (q ∷ qs) all met =
      let here = both (in_points ps q) (list_all (in_points ps) qs) all in
      elim (f q) as (λ b. f q ≡ b → (b || list_any f qs) ≡ true → list_any f ps ≡ true) [
        | true ↦ λ e h. found ps q here.0 e
        | false ↦ λ e h. all_found ps qs here.1 h
      ] refl met

pub points_found : (ps qs : List Coordinates) → list_all (in_points ps) qs ≡ true → (f : Index → Bool) → list_any f (map Point qs) ≡ true →
    list_any f (map Point ps) ≡ true
points_found ps qs all f met =
    any_map f Point ps ∙ all_found (λ p. f (Point p)) ps qs all (sym (any_map f Point qs) ∙ met)
