-- Lists that are read place by place, or through a function that gives some of their items.
use Rattle.std.proofs.Common.{◌≡◌, ℕ, zero, suc, ◌+◌, ◌<◌, List, [], ◌∷◌, ◌++◌, Option, Some, None, take, length, slice_get, get_or, arith, append_assoc, sym}
use Rattle.std.proofs.Common.{refl, ap, ◌∙◌}
use Rattle.std.specs.List.{filter_map}
use Rattle.std.specs.Option.{option_to_list}
use Rattle.std.proofs.lemmas.List.{take_more}
use Rattle.std.proofs.lemmas.List.Elements.{filter_map-append}
use Rattle.std.proofs.lemmas.Option.{slice_get_within, get_or_from_slice_get}

-- one more item
pub take_got : {X : Type 0} (xs : List X) (p : ℕ) (x : X) → Some x ≡ slice_get xs p → take (p + 1) xs ≡ take p xs ++ x ∷ []
take_got xs p x e =
    take_more xs p x (slice_get_within xs p x (sym e)) ∙ ap (λ y. take p xs ++ y ∷ []) (get_or_from_slice_get xs p x x (sym e))

-- there is an item at each place of the list
pub is_there : {X : Type 0} (xs : List X) (p : ℕ) → p < length xs → None ≡ slice_get xs p → ⊥
is_there [] p h e = omega arith
is_there (x ∷ xs) zero h e = cc
is_there (x ∷ xs) (suc p) h e = is_there xs p (omega arith) e

-- what the function gives of one more item
given_of : {X Y : Type 0} (h : X → Option Y) (x : X) (o : Option Y) → o ≡ h x → filter_map h (x ∷ []) ≡ option_to_list o
given_of h x None e = rw (← e) refl
given_of h x (Some y) e = rw (← e) refl

pub given_more : {X Y : Type 0} (h : X → Option Y) (xs : List X) (p : ℕ) (d : X) (o : Option Y) → p < length xs → o ≡ h (get_or xs p d)
    → filter_map h (take (p + 1) xs) ≡ filter_map h (take p xs) ++ option_to_list o
given_more h xs p d o b e = ap (filter_map h) (take_more xs p d b) ∙ filter_map-append h (take p xs) (get_or xs p d ∷ []) ∙
    ap (λ t. filter_map h (take p xs) ++ t) (given_of h (get_or xs p d) o e)

-- two texts put after one another
pub joined : (w a b x z : List ℕ) → x ≡ w ++ a → z ≡ x ++ b → z ≡ w ++ (a ++ b)
joined w a b x z e f = f ∙ ap (λ t. t ++ b) e ∙ append_assoc w a b
