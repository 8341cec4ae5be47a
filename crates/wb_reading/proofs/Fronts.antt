-- Bytes that begin with a line, or with the lines of objects.
use Rattle.std.proofs.Common.{◌≡◌, ◌≢◌, ℕ, ◌+◌, ◌<◌, List, ◌++◌, length, take, drop, get_or, Option, Some, None, Bor, MatchOption, IfSome, IfNone}
use Rattle.std.proofs.Common.{◌∷◌, [], zero, suc, Bool, true, false, Decides, refl, sym, ap, ◌∙◌, arith}
use Rattle.std.proofs.lemmas.Bool.{true≢false}
use Rattle.std.specs.List.{flat_map}
use Rattle.std.proofs.lemmas.List.{append_assoc, append_cancel_left, take-append-drop}
use Rattle.std.proofs.lemmas.List.Concat.{flat_map-append}

-- what follows a front, if there is one
pub some_follows : (s front : List ℕ) (r : Option (Bor (List ℕ)))
    → MatchOption r ((rest : List ℕ) → s ≢ front ++ rest) (λ x. s ≡ front ++ x.now)
    → IfSome r (λ rest. s ≡ front ++ rest.now)
some_follows s front None m = tt
some_follows s front (Some x) m = m

-- nothing does, where there is none
pub none_follows : (s front : List ℕ) (r : Option (Bor (List ℕ)))
    → MatchOption r ((rest : List ℕ) → s ≢ front ++ rest) (λ x. s ≡ front ++ x.now)
    → IfNone r ((rest : List ℕ) → s ≢ front ++ rest)
none_follows s front None m = m
none_follows s front (Some x) m = tt

-- all items are those before one, that one, and those behind it
behind_one : {X : Type 0} (xs : List X) (k : ℕ) (x : X) → k < length xs → x ≡ get_or xs k x → drop k xs ≡ x ∷ drop (k + 1) xs
behind_one [] k x l e = absurd (omega arith)
behind_one (y ∷ xs) zero x l e = λ i. sym e i ∷ xs
behind_one (y ∷ xs) (suc k) x l e = let next : suc k + 1 ≡ suc (k + 1) = omega arith in rw next (behind_one xs k x (omega arith) e)

module _ {X : Type 0} (f : X → List ℕ) where
  parted : (xs : List X) (k : ℕ) (x : X) → k < length xs → x ≡ get_or xs k x
      → flat_map f xs ≡ flat_map f (take k xs) ++ (f x ++ flat_map f (drop (k + 1) xs))
  parted xs k x l e =
      ap (flat_map f) (sym (take-append-drop k xs) ∙ ap (λ ys. take k xs ++ ys) (behind_one xs k x l e))
      ∙ flat_map-append f (take k xs) (x ∷ drop (k + 1) xs)

  -- a line that does not follow those before it
  pub other_line : (bytes rest : List ℕ) (xs : List X) (k : ℕ) (x : X) → k < length xs → x ≡ get_or xs k x
      → bytes ≡ flat_map f (take k xs) ++ rest
      → ((more : List ℕ) → rest ≢ f x ++ more)
      → (more : List ℕ) → bytes ≢ flat_map f xs ++ more
  other_line bytes rest xs k x l e begun other more is =
      let all = ap (λ ys. ys ++ more) (parted xs k x l e) ∙ append_assoc (flat_map f (take k xs)) _ more in
      other (flat_map f (drop (k + 1) xs) ++ more)
      (append_cancel_left (flat_map f (take k xs)) _ _ (sym begun ∙ (is ∙ all))
      ∙ append_assoc (f x) _ more)

-- what is left behind a first line and others tells whether the bytes end there
pub ends_so : (first lines end bytes rest : List ℕ) (b : Bool) → bytes ≡ first ++ (lines ++ rest) → Decides b (rest ≡ end)
    → Decides b (bytes ≡ first ++ (lines ++ end))
ends_so first lines end bytes rest b begun told = (
  (λ t. begun ∙ ap (λ r. first ++ (lines ++ r)) (told.0 t)),
  λ is. told.1 (append_cancel_left lines _ _ (append_cancel_left first _ _ (sym begun ∙ is))),
)

pub ends_not : (first lines end bytes : List ℕ) → ((rest : List ℕ) → bytes ≢ first ++ (lines ++ rest))
    → Decides false (bytes ≡ first ++ (lines ++ end))
ends_not first lines end bytes none = ((λ f. absurd (true≢false (sym f))), λ is. absurd (none end is))
