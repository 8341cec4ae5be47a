-- A list of so many items is the list of each of them.
use Rattle.std.proofs.Common.{◌≡◌, ℤ, pos, List, [], ◌∷◌, length, refl, arith, get_or}

pub one_item : (xs : List ℤ) → length xs ≡ 1 → get_or xs 0 (pos 0) ∷ [] ≡ xs
one_item [] many = absurd (omega arith)
one_item (x ∷ []) many = refl
one_item (x ∷ y ∷ rest) many = absurd (omega arith)

pub two_items : (xs : List ℤ) → length xs ≡ 2 → get_or xs 0 (pos 0) ∷ get_or xs 1 (pos 0) ∷ [] ≡ xs
two_items [] many = absurd (omega arith)
two_items (x ∷ []) many = absurd (omega arith)
two_items (x ∷ y ∷ []) many = refl
two_items (x ∷ y ∷ z ∷ rest) many = absurd (omega arith)

pub three_items : (xs : List ℤ) → length xs ≡ 3 → get_or xs 0 (pos 0) ∷ get_or xs 1 (pos 0) ∷ get_or xs 2 (pos 0) ∷ [] ≡ xs
three_items [] many = absurd (omega arith)
three_items (x ∷ []) many = absurd (omega arith)
three_items (x ∷ y ∷ []) many = absurd (omega arith)
three_items (x ∷ y ∷ z ∷ []) many = refl
three_items (x ∷ y ∷ z ∷ u ∷ rest) many = absurd (omega arith)
