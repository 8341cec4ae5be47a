-- What two sets of indices make: each index once, and what holds of each index of both.
use Rattle.std.proofs.Common.{◌≡◌, ◌⊎◌, inl, inr, ℕ, zero, suc, Bool, true, false, not, ◌&&◌, ◌||◌, List, [], ◌∷◌, ◌++◌, Some, slice_get, refl, sym, ap, ◌∙◌}
use Rattle.std.proofs.Common.{arith}
use Rattle.std.proofs.lemmas.Map.Views.{any-filter_same}
use Rattle.std.proofs.lemmas.List.Folds.{list_any-append}
use Rattle.std.proofs.lemmas.Map.Keys.{any_passes_from_place}
use Rattle.std.specs.Cmp.{eq_by_cmp_equiv}
use Rattle.wb_range.specs.Domain.{IsListedOnce}
use Rattle.wb_cells.specs.declared.values.index.Index.{Index}
use Rattle.wb_cells.specs.Cells.{is_same_index}
use Rattle.wb_cells.specs.WellFormed.{has}
use Rattle.wb_reshape.specs.declared.new_indices.SetOperation.{SetOperation}
use Rattle.wb_reshape.specs.declared.new_indices.SetOperation.TheVariants.{Union, Intersection, Difference, SymmetricDifference}
use Rattle.wb_reshape.specs.Resized.{without}
use Rattle.wb_reshape.specs.Sources.{among, combined, keeps}
use Rattle.wb_reshape.proofs.Members.{index_total}
use Rattle.wb_reshape.proofs.States.{same_index}
use Rattle.wb_reshape.proofs.Without.{has-without, IsListedOnce-filter, IsListedOnce-without, without-apart}

-- ---- each once

module _ {X : Type 0} where
  -- where an element of two lists, one behind the other, stands
  abbrev Stands : List X → X → Type 0
  Stands xs x = (p : ℕ) × (slice_get xs p ≡ Some x)

  further : (z x : X) (xs ys : List X) → Stands xs x ⊎ Stands ys x → Stands (z ∷ xs) x ⊎ Stands ys x
  further z x xs ys (inl s) = inl (suc s.0, s.1)
  further z x xs ys (inr s) = inr s

  in_either : (xs ys : List X) (p : ℕ) (x : X) → slice_get (xs ++ ys) p ≡ Some x → Stands xs x ⊎ Stands ys x
  in_either [] ys p x e = inr (p, e)
  in_either (z ∷ xs) ys zero x e = inl (zero, e)
  in_either (z ∷ xs) ys (suc p) x e = further z x xs ys (in_either xs ys p x e)

  later_once : (x : X) (xs : List X) → IsListedOnce (x ∷ xs) → IsListedOnce xs
  later_once x xs once p q y e f = let same : suc p ≡ suc q = once (suc p) (suc q) y e f in omega (arith, same)

  not_later : (x : X) (xs : List X) → IsListedOnce (x ∷ xs) → Stands xs x → ⊥
  not_later x xs once s = let same : zero ≡ suc s.0 = once zero (suc s.0) x refl s.1 in omega (arith, same)

  one_more_once : (x : X) (xs : List X) → (Stands xs x → ⊥) → IsListedOnce xs → IsListedOnce (x ∷ xs)
  one_more_once x xs new once zero zero y e f = refl
  one_more_once x xs new once zero (suc q) y e f = absurd (new (q, f ∙ sym e))
  one_more_once x xs new once (suc p) zero y e f = absurd (new (p, e ∙ sym f))
  one_more_once x xs new once (suc p) (suc q) y e f = ap (λ n. suc n) (once p q y e f)

  not_in_either : (x : X) (xs ys : List X) → (Stands xs x → ⊥) → (Stands ys x → ⊥) → Stands xs x ⊎ Stands ys x → ⊥
  not_in_either x xs ys f g (inl s) = f s
  not_in_either x xs ys f g (inr s) = g s

  both_once : (xs ys : List X) → IsListedOnce xs → IsListedOnce ys → ((x : X) → Stands xs x → Stands ys x → ⊥) → IsListedOnce (xs ++ ys)
  both_once [] ys once more apart = more
  both_once (x ∷ xs) ys once more apart =
      one_more_once x (xs ++ ys)
      (λ s. not_in_either x xs ys (not_later x xs once) (apart x (zero, refl)) (in_either xs ys s.0 x s.1))
      (both_once xs ys (later_once x xs once) more (λ y s t. apart y (suc s.0, s.1) t))

stands_has : (xs : List Index) (i : Index) (p : ℕ) → slice_get xs p ≡ Some i → has xs i ≡ true
stands_has xs i p e = any_passes_from_place (is_same_index i) xs p i e ((eq_by_cmp_equiv index_total).refl i)

-- lists with no index in common
apart_once : (xs ys : List Index) → IsListedOnce xs → IsListedOnce ys → ((i : Index) → has xs i ≡ true → has ys i ≡ false) → IsListedOnce (xs ++ ys)
apart_once xs ys once more apart = both_once xs ys once more (λ i s t.
    let no : true ≡ false = sym (stands_has ys i t.0 t.1) ∙ apart i (stands_has xs i s.0 s.1) in cc)

not_new : (a b : Bool) → b ≡ true → (a && not b) ≡ false
not_new true true e = refl
not_new false b e = refl
not_new true false e = cc

-- those of xs that are not among ys have none of ys
pub without-other : (ys xs : List Index) (i : Index) → has ys i ≡ true → has (without ys xs) i ≡ false
without-other ys xs i there = has-without ys xs i ∙ not_new (has xs i) (has ys i) there

pub IsListedOnce-combined : (how : SetOperation) (given old : List Index) → IsListedOnce given → IsListedOnce old → IsListedOnce (combined how given old)
IsListedOnce-combined Union given old g o = apart_once old (without old given) o (IsListedOnce-without old given g) (without-other old given)
IsListedOnce-combined Intersection given old g o = IsListedOnce-filter (has given) old o
IsListedOnce-combined Difference given old g o = IsListedOnce-without given old o
IsListedOnce-combined SymmetricDifference given old g o =
    apart_once (without given old) (without old given) (IsListedOnce-without given old o) (IsListedOnce-without old given g) (without-apart old given)

-- ---- exactly those that the operation keeps

has_either : (xs ys : List Index) (i : Index) → has (xs ++ ys) i ≡ (has xs i || has ys i)
has_either xs ys i = list_any-append (is_same_index i) xs ys

-- those of xs that are among ys
pub has-among : (ys xs : List Index) (i : Index) → has (among ys xs) i ≡ (has ys i && has xs i)
has-among ys xs i = any-filter_same (is_same_index i) (has ys) (has ys i) (λ j same. ap (has ys) (sym (same_index i j same))) xs

old_or_new : (given old : Bool) → (old || (given && not old)) ≡ (given || old)
old_or_new true true = refl
old_or_new true false = refl
old_or_new false true = refl
old_or_new false false = refl

pub has-combined : (how : SetOperation) (given old : List Index) (i : Index) → has (combined how given old) i ≡ keeps how (has given i) (has old i)
has-combined Union given old i =
    has_either old (without old given) i ∙ ap (λ b. has old i || b) (has-without old given i) ∙ old_or_new (has given i) (has old i)
has-combined Intersection given old i = has-among given old i
has-combined Difference given old i = has-without given old i
has-combined SymmetricDifference given old i =
    has_either (without given old) (without old given) i
    ∙ ap (λ b. b || has (without old given) i) (has-without given old i)
    ∙ ap (λ b. (has old i && not (has given i)) || b) (has-without old given i)
