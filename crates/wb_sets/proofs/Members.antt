-- the elements of a list with one more
use Rattle.std.proofs.Common.{◌≡◌, ◌≢◌, ◌↔◌, ◌⊎◌, inl, inr, ℕ, zero, suc, ◌<◌, List, ◌∷◌, length, get_or, sym, arith}
use Rattle.std.specs.List.{Contains}

pub contains_cons : {K : Type 0} (x : K) (xs : List K) (k : K) (i : ℕ) → i < length (x ∷ xs) → get_or (x ∷ xs) i k ≡ k → (k ≡ x) ⊎ Contains xs k
contains_cons x xs k zero l e = inl (sym e)
contains_cons x xs k (suc i) l e = inr (i, omega arith, e)

pub cons_contains : {K : Type 0} (x : K) (xs : List K) (k : K) → Contains xs k → Contains (x ∷ xs) k
cons_contains x xs k m = (suc m.0, omega (arith, m.1), m.2)

pub first_contains : {K : Type 0} (x : K) (xs : List K) (k : K) → k ≡ x → Contains (x ∷ xs) k
first_contains x xs k e = (0, omega arith, sym e)

-- a list and the same with another element before it
pub one_less : {K : Type 0} (x : K) (xs : List K) (k : K) → k ≢ x → Contains xs k ↔ Contains (x ∷ xs) k
one_less x xs k n = (λ m. cons_contains x xs k m, λ m. by (contains_cons x xs k m.0 m.1 m.2))
  where
    by : (k ≡ x) ⊎ Contains xs k → Contains xs k
    by (inl e) = absurd (n e)
    by (inr h) = h
