-- An array kept in pieces, one for each locale.
use Rattle.std.specs.Prelude.{◌≡◌, ℕ, ◌<◌, ℤ, ◌==◌, List, [], ◌∷◌, map, filter, length}
use Rattle.std.specs.List.{range_with_len, flat_map}
use Rattle.std.specs.declared.vec.Vec.{Vec}
use Rattle.std.specs.declared.cmp.Ordering.{Ordering}
use Rattle.std.specs.FinMap.{from_entries, entries}

module _ {I : Type 0} where
  -- piece l of an array: the pairs whose index has locale l, in their order (Chapel Language Specification, "Domain Maps")
  abbrev pub piece_of : (locale : I → ℕ) → List (I × ℤ) → ℕ → List (I × ℤ)
  piece_of locale es l = filter (λ e. locale e.0 == l) es

  -- the pieces of n locales from the first on
  abbrev pub pieces_from : (locale : I → ℕ) → List (I × ℤ) → (first n : ℕ) → List (List (I × ℤ))
  pieces_from locale es first n = map (piece_of locale es) (range_with_len first n)

  -- the pieces of an array over n locales
  abbrev pub pieces_of : (locale : I → ℕ) → (n : ℕ) → List (I × ℤ) → List (List (I × ℤ))
  pieces_of locale n es = pieces_from locale es 0 n

  -- each index has one of n locales
  abbrev pub LieBelow : (locale : I → ℕ) → (n : ℕ) → List (I × ℤ) → Type 0
  LieBelow locale n [] = Unit {0}
  LieBelow locale n (e ∷ es) = (locale e.0 < n) × LieBelow locale n es

  -- the pairs of all pieces, ascending by index
  abbrev pub merged : (I → I → Ordering) → List (List (I × ℤ)) → List (I × ℤ)
  merged cmp ps = entries (from_entries {R = cmp} (flat_map (λ p. p) ps))

  -- the pieces are those of an array of `size` elements, whose indices all have a locale
  pub record IsSplit (cmp : I → I → Ordering) (locale : I → ℕ) (n size : ℕ) (ps : List (List (I × ℤ))) : Type 0 where
    pub pieces : ps ≡ pieces_of locale n (merged cmp ps)
    pub below : LieBelow locale n (merged cmp ps)
    pub count : size ≡ length (merged cmp ps)

  -- what vectors of pairs hold
  abbrev pub lists_of : {Z : Type 0} → List (Vec (I × ℤ) Z) → List (List (I × ℤ))
  lists_of vs = map (λ v. v.items) vs
