-- Beginnings of one list.
use Rattle.std.proofs.Common.{◌≡◌, ℕ, ◌≤◌, ◌<◌, Bool, true, false, List, [], ◌∷◌, ◌++◌, length, MatchBool, refl, ap, sym, ◌∙◌, arith, append-nil, length-append}
use Rattle.std.proofs.lemmas.Bool.Decides.{nat_tests}
use lib.Dec.{leb}
use mathlib.Core.List.{IsPrefix}

-- of two beginnings of one list, the one that is no longer begins the other
pub within : {A : Type 0} (xs ys all : List A) → IsPrefix xs all → IsPrefix ys all → length xs ≤ length ys → IsPrefix xs ys
within [] ys all p q fits = (ys, refl)
within (x ∷ xs) [] all p q fits = absurd (omega arith)
within (x ∷ xs) (y ∷ ys) [] p q fits = absurd (cc (p.1))
within (x ∷ xs) (y ∷ ys) (z ∷ all) p q fits =
    let behind = within xs ys all (p.0, cc (p.1)) (q.0, cc (q.1)) (omega arith) in
    (behind.0, cc (p.1, q.1, behind.1))

-- a beginning that is no shorter is the whole
pub whole : {A : Type 0} (xs ys : List A) → IsPrefix xs ys → length ys ≤ length xs → xs ≡ ys
whole xs ys (rest, is) fits = none rest is
  where
    none : (r : List _) → xs ++ r ≡ ys → xs ≡ ys
    none [] e = sym (append-nil xs) ∙ e
    none (z ∷ zs) e = absurd (omega (arith, ap length e, length-append xs (z ∷ zs)))

-- two beginnings of one list, of one length, are the same
pub same : {A : Type 0} (xs ys all : List A) → IsPrefix xs all → IsPrefix ys all → length xs ≡ length ys → xs ≡ ys
same xs ys all p q e = whole xs ys (within xs ys all p q (omega arith)) (omega arith)

-- by their lengths: the first begins the second, or is longer
pub within_by : {A : Type 0} (xs ys all : List A) → IsPrefix xs all → IsPrefix ys all → (n m : ℕ) → n ≡ length xs → m ≡ length ys
    → (b : Bool) → leb n m ≡ b → MatchBool b (IsPrefix xs ys) (length ys < length xs)
within_by xs ys all p q n m en em true is = within xs ys all p q (let fits : n ≤ m = grind (arith, nat_tests) in omega arith)
within_by xs ys all p q n m en em false is = let more : m < n = grind (arith, nat_tests) in omega arith
