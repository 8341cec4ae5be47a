-- Where two lists differ, and how far they agree.
use Rattle.std.proofs.Common.{◌≡◌, ℕ, ◌+◌, ◌<◌, ◌≤◌, List, [], ◌∷◌, length, take, get_or, sym, ◌∙◌, arith}
use Rattle.std.specs.Prelude.{slice_get}
use Rattle.std.proofs.lemmas.List.{take_more_same}
use Rattle.std.proofs.lemmas.Option.{slice_get-get_or, slice_get_past, same_Some, none-some}

-- one item more that is the same
pub take_more_alike : {X : Type 0} (xs ys : List X) (i : ℕ) → i < length xs → i < length ys → take i xs ≡ take i ys → slice_get xs i ≡ slice_get ys i → take (i + 1) xs ≡ take (i + 1) ys
take_more_alike [] ys i left right same item = absurd (omega arith)
take_more_alike (x ∷ xs) ys i left right same item =
    let one = sym (slice_get-get_or (x ∷ xs) i x left) ∙ item ∙ slice_get-get_or ys i x right in
    take_more_same (x ∷ xs) ys i x left right same (same_Some _ _ one)

-- one list has an item where the other one has ended
pub right_longer : {X : Type 0} (xs ys : List X) (i : ℕ) → length xs ≤ i → i < length ys → slice_get xs i ≡ slice_get ys i → ⊥
right_longer xs [] i past within same = omega arith
right_longer xs (y ∷ ys) i past within same =
    none-some (get_or (y ∷ ys) i y) (sym (slice_get_past xs i past) ∙ same ∙ slice_get-get_or (y ∷ ys) i y within)

pub left_longer : {X : Type 0} (xs ys : List X) (i : ℕ) → length ys ≤ i → i < length xs → slice_get xs i ≡ slice_get ys i → ⊥
left_longer xs ys i past within same = right_longer ys xs i past within (sym same)
