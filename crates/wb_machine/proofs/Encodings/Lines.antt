-- The lines that are printed so far.
use Rattle.std.proofs.Common.{◌≡◌, ◌≤◌, ℕ, zero, suc, ◌+◌, List, [], ◌∷◌, ◌++◌, take, drop, slice_get, sym, ap, ◌∙◌, subst, Option, Some, None, arith}
use Rattle.std.specs.List.{flat_map}
use Rattle.std.proofs.lemmas.Grind.{flat_map-append}
use Rattle.std.proofs.lemmas.List.{append-nil}
use Rattle.std.proofs.lemmas.List.Concat.{flat_map-cons}
use Rattle.wb_history.specs.Past.{Numbered}
use Rattle.wb_history.specs.Restored.{numbered_at}
use Rattle.wb_machine.specs.Encoding.Text.{edit_line, IsJson, AreJson}

pub none_some : {A : Type 0} (a : A) (o : Option A) → o ≡ None → o ≡ Some a → ⊥
none_some a o n s = let e : None ≡ Some a = sym n ∙ s in cc

pub some_same : {A : Type 0} (a b : A) → Some a ≡ Some b → a ≡ b
some_same a b e = cc

take_next : (es : List Numbered) (k : ℕ) (x : Numbered) → Some x ≡ slice_get es k → take (suc k) es ≡ take k es ++ x ∷ []
take_next [] k x e = cc
take_next (y ∷ es) zero x e = let h : x ≡ y = cc in ap (λ z. z ∷ []) (sym h)
take_next (y ∷ es) (suc k) x e = ap (λ zs. y ∷ zs) (take_next es k x e)

-- behind the first so many
behind_next : (es : List Numbered) (f k : ℕ) (x : Numbered) → f ≤ k → Some x ≡ slice_get es k → drop f (take (suc k) es) ≡ drop f (take k es) ++ x ∷ []
behind_next es zero k x l e = take_next es k x e
behind_next [] (suc f) k x l e = cc
behind_next (y ∷ es) (suc f) zero x l e = absurd (omega (arith, l))
behind_next (y ∷ es) (suc f) (suc k) x l e = behind_next es f k x (omega (arith, l)) e

behind_more : (es : List Numbered) (f k : ℕ) (x : Numbered) → f ≤ k → Some x ≡ numbered_at es (k + 1) → drop f (take (k + 1) es) ≡ drop f (take k es) ++ x ∷ []
behind_more es f k x l e =
    let next : k + 1 ≡ suc k = omega arith in
    ap (λ n. drop f (take n es)) next ∙ behind_next es f k x l (e ∙ ap (numbered_at es) next)

pub lines_more : (es : List Numbered) (f k : ℕ) (x : Numbered) → f ≤ k → Some x ≡ numbered_at es (k + 1) →
    flat_map edit_line (drop f (take (k + 1) es)) ≡ flat_map edit_line (drop f (take k es)) ++ edit_line x
lines_more es f k x l e =
    let before : List Numbered = drop f (take k es) in
    ap (flat_map edit_line) (behind_more es f k x l e) ∙ flat_map-append edit_line before (x ∷ [])
    ∙ ap (λ t. flat_map edit_line before ++ t) (flat_map-cons edit_line x [] ∙ append-nil (edit_line x))

json_with : (es : List Numbered) (x : Numbered) → AreJson es → IsJson x.edit → AreJson (es ++ x ∷ [])
json_with [] x h s = (s, tt)
json_with (y ∷ es) x h s = (h.0, json_with es x h.1 s)

pub json_more : (es : List Numbered) (f k : ℕ) (x : Numbered) → f ≤ k → Some x ≡ numbered_at es (k + 1) → AreJson (drop f (take k es)) → IsJson x.edit →
    AreJson (drop f (take (k + 1) es))
json_more es f k x l e before one = subst AreJson (sym (behind_more es f k x l e)) (json_with (drop f (take k es)) x before one)
