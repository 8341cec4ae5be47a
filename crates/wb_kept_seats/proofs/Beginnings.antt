-- Beginnings of the turns that were made.
use Rattle.std.proofs.Common.{◌≡◌, ℕ, inl, inr, ◌⊎◌, ⊎_elim, List, [], ◌∷◌, ◌++◌, refl, sym, ap, ◌∙◌, subst, append_assoc, append-nil}
use mathlib.Core.List.{IsPrefix}
use Rattle.wb_kept_group.specs.Together.{changes_in}
use Rattle.wb_kept_group.proofs.Joining.{lines_behind}

-- a beginning of a list is one of that list with more behind it
pub prefix_more : {A : Type 0} (xs ys more : List A) → IsPrefix xs ys → IsPrefix xs (ys ++ more)
prefix_more xs ys more (rest, is) = (rest ++ more, sym (append_assoc xs rest more) ∙ ap (λ l. l ++ more) is)

pub prefix_all : {A : Type 0} (xs : List A) → IsPrefix xs xs
prefix_all xs = ([], append-nil xs)

pub prefix_of_prefix : {A : Type 0} (xs ys zs : List A) → IsPrefix xs ys → IsPrefix ys zs → IsPrefix xs zs
prefix_of_prefix xs ys zs begins (rest, is) = subst (λ l. IsPrefix xs l) is (prefix_more xs ys rest begins)

-- a beginning of a list with one more is one of the list, or all of it with the one
prefix_last : {A : Type 0} (xs ys : List A) (y : A) → IsPrefix xs (ys ++ y ∷ []) → IsPrefix xs ys ⊎ (xs ≡ ys ++ y ∷ [])
prefix_last [] ys y begins = inl (ys, refl)
prefix_last (x ∷ []) [] y (rest, is) = inr (let first : x ≡ y = cc is in ap (λ a. a ∷ []) first)
prefix_last (x ∷ x2 ∷ xs) [] y (rest, is) = absurd (cc is)
prefix_last (x ∷ xs) (y1 ∷ ys) y (rest, is) =
    let first : x ≡ y1 = cc is in
    let behind : xs ++ rest ≡ ys ++ y ∷ [] = cc is in
    ⊎_elim (λ begins. inl (begins.0, ap (λ a. a ∷ xs ++ begins.0) first ∙ ap (λ l. y1 ∷ l) begins.1))
    (λ all. inr (ap (λ a. a ∷ xs) first ∙ ap (λ l. y1 ∷ l) all)) (prefix_last xs ys y (rest, behind))

-- what holds of each front of the turns, and of all with one more, holds of each front of these
pub each_front_more : {A : Type 0} (P : List A → Type 0) (turns : List A) (turn : A) → ((front : List A) → IsPrefix front turns → P front) → P (turns ++ turn ∷ [])
    → (front : List A) → IsPrefix front (turns ++ turn ∷ []) → P front
each_front_more P turns turn each all front begins = ⊎_elim (each front) (λ is. subst P (sym is) all) (prefix_last front turns turn begins)

-- no turn is before the first
pub front_of_none : {A : Type 0} (front : List A) → IsPrefix front [] → front ≡ []
front_of_none [] begins = refl
front_of_none (x ∷ xs) (rest, is) = absurd (cc is)

-- the changes of a turn behind those of all turns before
pub turn_behind : (lines : List (List ℕ)) (made : List (List (List ℕ))) (turn : List (List ℕ)) → (lines ++ changes_in made) ++ turn ≡ lines ++ changes_in (made ++ turn ∷ [])
turn_behind lines made turn = ap (λ ls. (lines ++ changes_in made) ++ ls) (sym (append-nil turn)) ∙ lines_behind lines made (turn ∷ [])
