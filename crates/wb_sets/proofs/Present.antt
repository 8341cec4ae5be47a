-- A key that was found at a place is there, and adding it changes nothing.
use Rattle.std.proofs.Common.{◌≡◌, ◌↔◌, ◌⊎◌, inl, inr, ℕ, List, Some, slice_get, sym, subst}
use Rattle.std.specs.List.{Contains}
use Rattle.std.proofs.lemmas.Option.{slice_get_within, get_or_from_slice_get}

pub contains_at : {X : Type 0} (xs : List X) (p : ℕ) (key : X) → slice_get xs p ≡ Some key → Contains xs key
contains_at xs p key e = (p, slice_get_within xs p key e, get_or_from_slice_get xs p key key e)

pub members-present : {X : Type 0} (xs : List X) (key : X) (p : ℕ) (k : X) → slice_get xs p ≡ Some key → Contains xs k ↔ (Contains xs k ⊎ (k ≡ key))
members-present {X} xs key p k e = (λ m. inl m, back)
  where
    back : Contains xs k ⊎ (k ≡ key) → Contains xs k
    back (inl m) = m
    back (inr same) = subst (λ (x : X). Contains xs x) (sym same) (contains_at xs p key e)
