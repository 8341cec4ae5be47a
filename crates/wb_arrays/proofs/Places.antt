-- What one more index of a domain adds.
use Rattle.std.proofs.Common.{◌≡◌, ℕ, zero, suc, ◌+◌, ◌≤◌, ℤ, Bool, true, false, cond, List, [], ◌∷◌, ◌++◌, take, length, Option, Some, None, slice_get, refl}
use Rattle.std.proofs.Common.{sym, ◌∙◌, ap, arith}
use Rattle.std.specs.declared.cmp.Ordering.{Ordering}
use Rattle.std.specs.declared.cmp.Ordering.TheVariants.{Equal}
use Rattle.std.specs.Ordering.{is_eq}
use Rattle.std.specs.Cmp.{IsTotalOrder, eq_by_cmp_equiv}
use Rattle.std.specs.FinMap.{IsAntisymmetric}
use Rattle.std.proofs.lemmas.List.{take_more}
use Rattle.std.proofs.lemmas.Option.{slice_get_within, get_or_from_slice_get}
use Rattle.wb_range.specs.Lookup.{has}

pub has-append : {I : Type 0} (cmp : I → I → Ordering) (xs : List I) (i q : I) → has cmp (xs ++ i ∷ []) q ≡ cond (is_eq (cmp q i)) true (has cmp xs q)
has-append cmp [] i q = refl
has-append cmp (x ∷ xs) i q = grind (arith, has-append cmp xs i q)

pub has-take_more : {I : Type 0} (cmp : I → I → Ordering) (xs : List I) (p : ℕ) (i q : I) → slice_get xs p ≡ Some i →
    has cmp (take (p + 1) xs) q ≡ cond (is_eq (cmp q i)) true (has cmp (take p xs) q)
has-take_more cmp xs p i q h = rw (take_more xs p i (slice_get_within xs p i h), get_or_from_slice_get xs p i i h) (has-append cmp (take p xs) i q)

module _ {I : Type 0} (cmp : I → I → Ordering) (total : IsTotalOrder cmp) (exact : IsAntisymmetric cmp) where
  is_eq_equal : (o : Ordering) → is_eq o ≡ true → o ≡ Equal
  is_eq_equal o h = grind arith

  pub alike : (i q : I) → is_eq (cmp i q) ≡ true → i ≡ q
  alike i q h = exact i q (is_eq_equal _ h)

  -- one more index was put in, with what h gives it
  pub filled_more : (xs : List I) (p : ℕ) (i : I) (h f g : I → Option ℤ) → slice_get xs p ≡ Some i →
      ((q : I) → f q ≡ cond (has cmp (take p xs) q) (h q) None) →
      ((q : I) → g q ≡ cond (is_eq (cmp i q)) (h i) (f q)) →
      (q : I) → g q ≡ cond (has cmp (take (p + 1) xs) q) (h q) None
  filled_more xs p i h f g at before step q =
      rw (has-take_more cmp xs p i q at, step q, before q, (eq_by_cmp_equiv total).symm q i)
      (same (is_eq (cmp i q)) (has cmp (take p xs) q) (λ e. ap h (alike i q e)))
    where
      same : (b c : Bool) → (b ≡ true → h i ≡ h q) → cond b (h i) (cond c (h q) None) ≡ cond (cond b true c) (h q) None
      same true c e = e refl
      same false c e = refl

  -- one more index, at which h has nothing, was passed over
  pub passed_more : (xs : List I) (p : ℕ) (i : I) (h f : I → Option ℤ) → slice_get xs p ≡ Some i → h i ≡ None →
      ((q : I) → f q ≡ cond (has cmp (take p xs) q) (h q) None) →
      (q : I) → f q ≡ cond (has cmp (take (p + 1) xs) q) (h q) None
  passed_more xs p i h f at none before q =
      rw (has-take_more cmp xs p i q at, before q) (same (is_eq (cmp q i)) (has cmp (take p xs) q) (λ e. ap h (exact q i (is_eq_equal _ e)) ∙ none))
    where
      same : (b c : Bool) → (b ≡ true → h q ≡ None) → cond c (h q) None ≡ cond (cond b true c) (h q) None
      same true true e = refl
      same true false e = sym (e refl)
      same false c e = refl

-- below the length there is an item
pub none_past : {A : Type 0} (xs : List A) (p : ℕ) → slice_get xs p ≡ None → length xs ≤ p
none_past [] p h = omega arith
none_past (x ∷ xs) zero h = absurd (cc)
none_past (x ∷ xs) (suc p) h = omega (arith, none_past xs p h)
