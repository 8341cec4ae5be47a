-- The bound on the latest edit in force, as edits come and go.
use Rattle.std.proofs.Common.{◌≡◌, ℕ, ◌+◌, ◌-◌, ◌<◌, ◌≤◌, ◌==◌, nat_lt, Bool, true, false, List, length, Option, Some, None, option_map, is_some}
use Rattle.std.proofs.Common.{if◌then◌else◌, slice_get, refl, sym, ap, subst, ◌∙◌, arith}
use Rattle.std.proofs.lemmas.Bool.Decides.{nat_tests}
use Rattle.selective_undo.specs.Log.{Footprint}
use Rattle.wb_cells.specs.Schema.{workbook}
use Rattle.wb_footprints.specs.Footprints.{Footprints, with_footprint}
use Rattle.wb_footprints.specs.Relation.{IsGreatest}
use Rattle.wb_log.specs.declared.entry.LoggedEdit as kept
use Rattle.wb_log.specs.declared.entry.UndoData.{UndoData}
use Rattle.wb_log.specs.declared.index.bound.LatestBound.{LatestBound}
use Rattle.wb_log.specs.Indexed.{IsBound}
use Rattle.wb_log.specs.Kept.{footprint, kept_in, kept_all, by_number, IsLatest}
use Rattle.wb_log.proofs.Entered.{kept_here, none_past, latest_some}

-- ---- one footprint comes or goes

-- at another number there still is none
others : (f : Footprints) (n k : ℕ) (o : Option (Footprint workbook)) → (n ≡ k → ⊥) → f k ≡ None → with_footprint f n o k ≡ None
others f n k o apart none =
    elim (n == k) as (λ b. (n == k) ≡ b → (if b then o else f k) ≡ None) [
      | true ↦ λ e. let same : n ≡ k = grind (arith, nat_tests) in absurd (apart same)
      | false ↦ λ e. none
    ] refl

-- where one goes there is none
gone : (f : Footprints) (n k : ℕ) → ((n ≡ k → ⊥) → f k ≡ None) → with_footprint f n None k ≡ None
gone f n k none =
    elim (n == k) as (λ b. (n == k) ≡ b → (if b then None else f k) ≡ None) [
      | true ↦ λ e. refl
      | false ↦ λ e. none (λ same. let it : (n == k) ≡ true = grind (arith, nat_tests) in cc)
    ] refl

module _ (x : LatestBound) (count at : ℕ) (f : Footprints) (h : IsBound x count f) where
  -- the edit at the bound goes
  pub left : x.bound ≡ at + 1 → IsBound (record x { bound = at }) count (with_footprint f (at + 1) None)
  left is =
      record {
        told = h.told;
        bound = omega (arith, is, h.bound);
        above = λ k high low. gone f (at + 1) k (λ apart. h.above k (let far : x.bound < k = absurd_or k high apart in far) low);
      }
    where
      absurd_or : (k : ℕ) → at < k → (at + 1 ≡ k → ⊥) → x.bound < k
      absurd_or k high apart = let not : k ≤ at + 1 → ⊥ = λ low. apart (omega (arith, high, low)) in omega (arith, is, not)

  -- another goes
  pub left_other : IsBound x count (with_footprint f (at + 1) None)
  left_other =
      record {
        told = h.told;
        bound = h.bound;
        above = λ k high low. gone f (at + 1) k (λ apart. h.above k high low);
      }

  -- one behind the bound comes
  pub back : (g : Footprint workbook) → x.bound ≤ at → at < x.told → IsBound (record x { bound = at + 1 }) count (with_footprint f (at + 1) (Some g))
  back g behind within =
      record {
        told = h.told;
        bound = omega (arith, within);
        above = λ k high low. others f (at + 1) k (Some g) (λ same. omega (arith, same, high)) (h.above k (omega (arith, behind, high)) low);
      }

  -- one within it comes
  pub back_within : (g : Footprint workbook) → at < x.bound → IsBound x count (with_footprint f (at + 1) (Some g))
  back_within g within =
      record {
        told = h.told;
        bound = h.bound;
        above = λ k high low. others f (at + 1) k (Some g) (λ same. omega (arith, same, high, within)) (h.above k high low);
      }

  -- one comes of which nothing was told
  pub back_untold : (g : Footprint workbook) → x.told ≤ at → IsBound x count (with_footprint f (at + 1) (Some g))
  back_untold g behind =
      record {
        told = h.told;
        bound = h.bound;
        above = λ k high low. others f (at + 1) k (Some g) (λ same. omega (arith, same, low, behind)) (h.above k high low);
      }

-- ---- the one at the bound

kept_some : (o : Option UndoData) → is_some (option_map (λ k. footprint k.footprint k.inverse) o) ≡ is_some o
kept_some (Some k) = refl
kept_some None = refl

module _ (x : LatestBound) (es : List kept.LoggedEdit) (h : IsBound x (length es) (by_number es)) (all : length es ≤ x.told) where
  none_above : (n : ℕ) → x.bound < n → by_number es n ≡ None
  none_above n high =
      elim (nat_lt x.told n) as (λ b. nat_lt x.told n ≡ b → by_number es n ≡ None) [
        | true ↦ λ e. let far : x.told < n = grind (arith, nat_tests) in none_past es n (omega (arith, far, all))
        | false ↦ λ e. let low : n ≤ x.told = grind (arith, nat_tests) in h.above n high low
      ] refl

  within : (n : ℕ) → is_some (by_number es n) ≡ true → n ≤ x.bound
  within n some =
      elim (nat_lt x.bound n) as (λ b. nat_lt x.bound n ≡ b → n ≤ x.bound) [
        | true ↦ λ e.
            let high : x.bound < n = grind (arith, nat_tests) in
            let none : is_some (by_number es n) ≡ false = ap is_some (none_above n high) in
            cc
        | false ↦ λ e. grind (arith, nat_tests)
      ] refl

  pub latest_at_bound : (at : ℕ) (y : kept.LoggedEdit) → x.bound ≡ at + 1 → slice_get es at ≡ Some y → is_some y.kept ≡ true → IsLatest (kept_all es) (Some at)
  latest_at_bound at y is there on =
      let here : is_some (by_number es (at + 1)) ≡ true = ap is_some (kept_here es at y there) ∙ kept_some y.kept ∙ on in
      let greatest : IsGreatest (λ n. is_some (by_number es n)) (Some (at + 1)) = (here, λ n some. omega (arith, within n some, is)) in
      let e : at + 1 - 1 ≡ at = omega arith in
      subst (λ (m : ℕ). IsLatest (kept_all es) (Some m)) e (latest_some es (at + 1) greatest)
