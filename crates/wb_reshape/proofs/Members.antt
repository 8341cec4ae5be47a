-- What a list of indices has, as a search of a set says it, and as definitions compute it.
use Rattle.std.proofs.Common.{◌≡◌, ◌↔◌, ℕ, zero, suc, ◌+◌, ◌<◌, Bool, true, false, cond, not, List, [], ◌∷◌, ◌++◌, Some, None, IsTrue, take, length, slice_get}
use Rattle.std.proofs.Common.{refl, sym, ap, ◌∙◌, arith}
use Rattle.std.proofs.lemmas.List.{take_more}
use Rattle.std.proofs.lemmas.List.Elements.{filter-append}
use Rattle.std.proofs.lemmas.Option.{slice_get_within, get_or_from_slice_get}
use Rattle.std.proofs.lemmas.Map.Views.{Contains-from_any, list_any-from_Contains}
use Rattle.std.specs.Cmp.{IsTotalOrder, eq_by_cmp_equiv}
use Rattle.std.specs.List.{Contains, filter}
use Rattle.wb_cells.specs.contracts.values.index.IndexOrd.TheImpl.Laws as laws
use Rattle.wb_cells.specs.declared.values.index.Index.{Index}
use Rattle.wb_cells.specs.Cells.{index_cmp}
use Rattle.wb_cells.specs.WellFormed.{has}
use Rattle.wb_reshape.specs.Resized.{without}
use Rattle.wb_reshape.proofs.States.{same_index}

pub index_total : IsTotalOrder index_cmp
index_total = laws.total-law

pub Contains-has : (xs : List Index) (i : Index) → has xs i ≡ true → Contains xs i
Contains-has xs i there = Contains-from_any same_index i xs there

pub has-Contains : (xs : List Index) (i : Index) → Contains xs i → has xs i ≡ true
has-Contains xs i there = list_any-from_Contains (eq_by_cmp_equiv index_total) i xs there

-- truths that follow from one another are one
same_truth : (a b : Bool) → (a ≡ true → b ≡ true) → (b ≡ true → a ≡ true) → a ≡ b
same_truth true b f g = sym (f refl)
same_truth false true f g = g refl
same_truth false false f g = refl

-- the answer of a search
pub found_has : (b : Bool) (xs : List Index) (i : Index) → IsTrue b ↔ Contains xs i → b ≡ has xs i
found_has b xs i h = same_truth b (has xs i) (λ e. has-Contains xs i (h.0 e)) (λ e. h.1 (Contains-has xs i e))

-- lists with the same members
pub has_same : (xs ys : List Index) → ((k : Index) → Contains xs k ↔ Contains ys k) → (i : Index) → has xs i ≡ has ys i
has_same xs ys h i = same_truth (has xs i) (has ys i) (λ e. has-Contains ys i ((h i).0 (Contains-has xs i e)))
    (λ e. has-Contains xs i ((h i).1 (Contains-has ys i e)))

filter_same : (p q : Index → Bool) → ((i : Index) → p i ≡ q i) → (xs : List Index) → filter p xs ≡ filter q xs
filter_same p q h [] = refl
filter_same p q h (x ∷ xs) = ap (λ b. cond b (x ∷ filter p xs) (filter p xs)) (h x) ∙ ap (λ ys. cond (q x) (x ∷ ys) ys) (filter_same p q h xs)

pub without_same : (xs ys zs : List Index) → ((k : Index) → Contains xs k ↔ Contains ys k) → without xs zs ≡ without ys zs
without_same xs ys zs h = filter_same (λ i. not (has xs i)) (λ i. not (has ys i)) (λ i. ap not (has_same xs ys h i)) zs

within : {X : Type 0} (xs : List X) (p : ℕ) → p < length xs → None ≡ slice_get xs p → ⊥
within [] p h e = omega arith
within (x ∷ xs) zero h e = cc
within (x ∷ xs) (suc p) h e = within xs p (omega arith) e

pub none_within : (xs : List Index) (p : ℕ) → p < length xs → None ≡ slice_get xs p → ⊥
none_within = within

-- one more index looked at
pub without_more : (ys xs : List Index) (p : ℕ) (i : Index) → Some i ≡ slice_get xs p →
    without ys (take (p + 1) xs) ≡ without ys (take p xs) ++ without ys (i ∷ [])
without_more ys xs p i e =
    let more : take (p + 1) xs ≡ take p xs ++ i ∷ [] = take_more xs p i (slice_get_within xs p i (sym e)) ∙
    ap (λ x. take p xs ++ x ∷ []) (get_or_from_slice_get xs p i i (sym e)) in
    ap (without ys) more ∙ filter-append (λ j. not (has ys j)) (take p xs) (i ∷ [])
