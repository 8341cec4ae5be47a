-- The only pass of a seat, as far as a loop has come.
use Rattle.std.proofs.Common.{◌≡◌, ℕ, zero, suc, ◌+◌, ◌<◌, true, false, List, [], ◌∷◌, ◌++◌, length, get_or, take, drop, slice_get, Option, Some, None, is_some}
use Rattle.std.proofs.Common.{ap, sym, ◌∙◌, arith}
use Rattle.std.specs.Prelude.{◌==◌}
use Rattle.wb_desk.specs.Serving.{Held}
use Rattle.wb_desk.specs.Settling.{passes_of, HasOnePass}
use Rattle.wb_desk.proofs.Parts.{filter_yes, filter_no, filter_at}

-- none of the passes so far is of the seat, or only the one at a place
abbrev pub FoundIn : List Held → ℕ → ℕ → Option ℕ → Type 0
FoundIn ps k at None = passes_of k (take at ps) ≡ []
FoundIn ps k at (Some i) = (p : Held) × (slice_get ps i ≡ Some p) × (passes_of k (take at ps) ≡ p ∷ [])

got : {X : Type 0} (xs : List X) (i : ℕ) (x : X) → i < length xs → x ≡ get_or xs i x → slice_get xs i ≡ Some x
got [] i x h e = absurd (omega arith)
got (y ∷ xs) zero x h e = ap Some (sym e)
got (y ∷ xs) (suc i) x h e = got xs i x (omega arith) e

pub second_pass : (ps : List Held) (k i : ℕ) (found : Option ℕ) (x : Held) → i < length ps → x ≡ get_or ps i x → (x.seat == k) ≡ true
    → is_some found ≡ true → FoundIn ps k i found → ¬ HasOnePass ps k
second_pass ps k i None x h is t some f one = cc
second_pass ps k i (Some j) x h is t some (p, at, only) one =
    let rest : List Held = passes_of k (drop (i + 1) ps) in
    let two : passes_of k ps ≡ p ∷ x ∷ rest = filter_at (λ (q : Held). q.seat == k) ps i x h is t ∙ ap (λ qs. qs ++ x ∷ rest) only in
    let long : length (passes_of k ps) ≡ length (p ∷ x ∷ rest) = ap length two in
    omega (arith, one, long)

pub first_pass : (ps : List Held) (k i : ℕ) (found : Option ℕ) (x : Held) → i < length ps → x ≡ get_or ps i x → (x.seat == k) ≡ true
    → is_some found ≡ false → FoundIn ps k i found → FoundIn ps k (i + 1) (Some i)
first_pass ps k i (Some j) x h is t some f = cc
first_pass ps k i None x h is t some f = (x, got ps i x h is, filter_yes (λ (q : Held). q.seat == k) ps i x h is t ∙ ap (λ qs. qs ++ x ∷ []) f)

pub other_pass : (ps : List Held) (k i : ℕ) (found : Option ℕ) (x : Held) → i < length ps → x ≡ get_or ps i x → (x.seat == k) ≡ false
    → FoundIn ps k i found → FoundIn ps k (i + 1) found
other_pass ps k i None x h is t f = filter_no (λ (q : Held). q.seat == k) ps i x h is t ∙ f
other_pass ps k i (Some j) x h is t (p, at, only) = (p, at, filter_no (λ (q : Held). q.seat == k) ps i x h is t ∙ only)
