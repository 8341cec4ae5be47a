-- The part of a list that passes a test, as far as a loop has come.
use Rattle.std.proofs.Common.{◌≡◌, ◌≢◌, ℕ, zero, suc, ◌+◌, ◌<◌, ◌≤◌, Bool, true, false, cond, List, [], ◌∷◌, ◌++◌, length, get_or, take, drop, filter}
use Rattle.std.proofs.Common.{slice_get, Some, None, refl, ap, sym, ◌∙◌, arith, add-one}
use Rattle.std.proofs.lemmas.List.{append-nil, take_more}
use Rattle.std.proofs.lemmas.List.Elements.{filter-append}
use Rattle.std.proofs.lemmas.Option.{slice_get_past}
use Rattle.wb_desk.specs.declared.entry.Entry.{Entry}
use Rattle.wb_desk.specs.Settling.{FirstDifference}

pub filter_more : {X : Type 0} (p : X → Bool) (xs : List X) (i : ℕ) (d : X) → i < length xs
    → filter p (take (i + 1) xs) ≡ filter p (take i xs) ++ cond (p (get_or xs i d)) (get_or xs i d ∷ []) []
filter_more p xs i d h = ap (filter p) (take_more xs i d h) ∙ filter-append p (take i xs) (get_or xs i d ∷ [])

pub filter_yes : {X : Type 0} (p : X → Bool) (xs : List X) (i : ℕ) (x : X) → i < length xs → x ≡ get_or xs i x → p x ≡ true
    → filter p (take (i + 1) xs) ≡ filter p (take i xs) ++ x ∷ []
filter_yes p xs i x h is t = let t' : p (get_or xs i x) ≡ true = rw (← is) t in filter_more p xs i x h ∙
    ap (λ b. filter p (take i xs) ++ cond b (get_or xs i x ∷ []) []) t' ∙ ap (λ y. filter p (take i xs) ++ y ∷ []) (sym is)

pub filter_no : {X : Type 0} (p : X → Bool) (xs : List X) (i : ℕ) (x : X) → i < length xs → x ≡ get_or xs i x → p x ≡ false
    → filter p (take (i + 1) xs) ≡ filter p (take i xs)
filter_no p xs i x h is t = let t' : p (get_or xs i x) ≡ false = rw (← is) t in filter_more p xs i x h ∙
    ap (λ b. filter p (take i xs) ++ cond b (get_or xs i x ∷ []) []) t' ∙ append-nil (filter p (take i xs))

parts : {X : Type 0} (xs : List X) (i : ℕ) → xs ≡ take i xs ++ drop i xs
parts [] zero = refl
parts [] (suc i) = refl
parts (x ∷ xs) zero = refl
parts (x ∷ xs) (suc i) = ap (λ ys. x ∷ ys) (parts xs i)

pub filter_parts : {X : Type 0} (p : X → Bool) (xs : List X) (i : ℕ) → filter p xs ≡ filter p (take i xs) ++ filter p (drop i xs)
filter_parts p xs i = ap (filter p) (parts xs i) ∙ filter-append p (take i xs) (drop i xs)

pub append_assoc' : {X : Type 0} (xs : List X) (x : X) (ys : List X) → (xs ++ x ∷ []) ++ ys ≡ xs ++ x ∷ ys
append_assoc' [] x ys = refl
append_assoc' (y ∷ xs) x ys = ap (λ zs. y ∷ zs) (append_assoc' xs x ys)

-- the parts at an element that passes
pub filter_at : {X : Type 0} (p : X → Bool) (xs : List X) (i : ℕ) (x : X) → i < length xs → x ≡ get_or xs i x → p x ≡ true
    → filter p xs ≡ filter p (take i xs) ++ x ∷ filter p (drop (i + 1) xs)
filter_at p xs i x h is t = filter_parts p xs (i + 1) ∙ ap (λ ys. ys ++ filter p (drop (i + 1) xs)) (filter_yes p xs i x h is t) ∙
    append_assoc' (filter p (take i xs)) x (filter p (drop (i + 1) xs))
