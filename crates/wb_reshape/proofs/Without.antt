-- The indices of one list that are not among those of another: which they are, and that each stands there once.
use Rattle.std.proofs.Common.{◌≡◌, ℕ, zero, suc, Bool, true, false, not, cond, ◌&&◌, List, [], ◌∷◌, Some, slice_get, refl, sym, ap, ◌∙◌, arith}
use Rattle.std.proofs.Math.Bool.{and_comm}
use Rattle.std.proofs.lemmas.Map.Views.{any-filter_same}
use Rattle.std.specs.List.{filter}
use Rattle.wb_range.specs.Domain.{IsListedOnce}
use Rattle.wb_cells.specs.declared.values.index.Index.{Index}
use Rattle.wb_cells.specs.Cells.{is_same_index}
use Rattle.wb_cells.specs.WellFormed.{has}
use Rattle.wb_reshape.specs.Resized.{without}
use Rattle.wb_reshape.proofs.States.{same_index}

-- those of xs that are not among ys
pub has-without : (ys xs : List Index) (i : Index) → has (without ys xs) i ≡ (has xs i && not (has ys i))
has-without ys xs i =
    any-filter_same (is_same_index i) (λ j. not (has ys j)) (not (has ys i)) (λ j same. ap (λ k. not (has ys k)) (sym (same_index i j same))) xs
    ∙ and_comm (not (has ys i)) (has xs i)

-- ---- each once

module _ {X : Type 0} where
  -- each element of ys is one of xs
  abbrev AreIn : (xs ys : List X) → Type 0
  AreIn xs ys = (p : ℕ) (x : X) → slice_get ys p ≡ Some x → (q : ℕ) × (slice_get xs q ≡ Some x)

  one_more : (keep : Bool) (x : X) (xs ys : List X) → AreIn xs ys → AreIn (x ∷ xs) (cond keep (x ∷ ys) ys)
  one_more true x xs ys are zero y e = (zero, e)
  one_more true x xs ys are (suc p) y e = let there = are p y e in (suc there.0, there.1)
  one_more false x xs ys are p y e = let there = are p y e in (suc there.0, there.1)

  kept_were_there : (test : X → Bool) (xs : List X) → AreIn xs (filter test xs)
  kept_were_there test [] = λ p x e. (p, e)
  kept_were_there test (x ∷ xs) = one_more (test x) x xs (filter test xs) (kept_were_there test xs)

  later_once : (x : X) (xs : List X) → IsListedOnce (x ∷ xs) → IsListedOnce xs
  later_once x xs once p q y e f = let same : suc p ≡ suc q = once (suc p) (suc q) y e f in omega (arith, same)

  first_once : (x : X) (xs ys : List X) → IsListedOnce (x ∷ xs) → AreIn xs ys → (q : ℕ) → slice_get ys q ≡ Some x → ⊥
  first_once x xs ys once are q e =
      let there = are q x e in
      let same : zero ≡ suc there.0 = once zero (suc there.0) x refl there.1 in
      omega (arith, same)

  still_once : (keep : Bool) (x : X) (xs ys : List X) → IsListedOnce (x ∷ xs) → AreIn xs ys → IsListedOnce ys → IsListedOnce (cond keep (x ∷ ys) ys)
  still_once false x xs ys once are h p q y e f = h p q y e f
  still_once true x xs ys once are h zero zero y e f = refl
  still_once true x xs ys once are h zero (suc q) y e f = absurd (first_once x xs ys once are q (f ∙ sym e))
  still_once true x xs ys once are h (suc p) zero y e f = absurd (first_once x xs ys once are p (e ∙ sym f))
  still_once true x xs ys once are h (suc p) (suc q) y e f = ap (λ n. suc n) (h p q y e f)

  pub IsListedOnce-filter : (test : X → Bool) (xs : List X) → IsListedOnce xs → IsListedOnce (filter test xs)
  IsListedOnce-filter test [] once = once
  IsListedOnce-filter test (x ∷ xs) once = still_once (test x) x xs (filter test xs) once (kept_were_there test xs)
      (IsListedOnce-filter test xs (later_once x xs once))

pub IsListedOnce-without : (ys xs : List Index) → IsListedOnce xs → IsListedOnce (without ys xs)
IsListedOnce-without ys = IsListedOnce-filter (λ i. not (has ys i))

-- no index both leaves and comes
neither_way : (a b : Bool) → (b && not a) ≡ true → (a && not b) ≡ false
neither_way true true e = refl
neither_way true false e = cc
neither_way false b e = refl

pub without-apart : (xs ys : List Index) (i : Index) → has (without ys xs) i ≡ true → has (without xs ys) i ≡ false
without-apart xs ys i there = has-without xs ys i ∙ neither_way (has ys i) (has xs i) (sym (has-without ys xs i) ∙ there)
