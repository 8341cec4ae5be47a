-- What is asked of the functions that a machine's caller hands in.
use Rattle.std.specs.Prelude.{◌≡◌, ℕ, Bool, true, false, List, ◌++◌, Result, Ok, Err}
use Rattle.std.specs.Fn.{Shared}
use Rattle.std.specs.declared.vec.Vec.{Vec}
use denote.Ref.{Bor, MutBor}

-- A line was answered, and its changes stand behind those from before; without memory nothing is said.
abbrev pub Answered : {S Z E : Type 0} → (S → List ℕ → List ℕ → List (List ℕ) → S → Type 0) → S → List ℕ → List (List ℕ) → Result (Vec ℕ Z) E → S → List (List ℕ) → Type 0
Answered answers s line before (Ok reply) t after = (made : List (List ℕ)) × answers s line reply.items made t × (after ≡ before ++ made)
Answered answers s line before (Err e) t after = Unit {0}

-- so does f, called at any state and any line
abbrev pub AnswersBy : {F S Z E : Type 0}
    → Shared F (MutBor S × (Bor (List ℕ) × (MutBor (List (List ℕ)) × Unit {0}))) (Result (Vec ℕ Z) E × (MutBor S × (MutBor (List (List ℕ)) × Unit {0}))) → F
    → (S → List ℕ → List ℕ → List (List ℕ) → S → Type 0) → Type 0
AnswersBy {F} {S} {Z} {E} g f answers = (s : MutBor S) (line : Bor (List ℕ)) (before : MutBor (List (List ℕ))) (r : Result (Vec ℕ Z) E) (t : MutBor S)
    (after : MutBor (List (List ℕ))) → g.post f (s, (line, (before, tt))) (r, (t, (after, tt))) → Answered answers s.now line.now before.now r t.now after.now

-- A change was granted, and led to a state, or it leads to none; without memory nothing is said.
abbrev pub Granted : {S E : Type 0} → (S → List ℕ → S → Type 0) → S → List ℕ → Result Bool E → S → Type 0
Granted grants s change (Ok true) t = grants s change t
Granted grants s change (Ok false) t = (next : _) → grants s change next → ⊥
Granted grants s change (Err e) t = Unit {0}

-- so does f, called at any state and any change
abbrev pub GrantsBy : {F S E : Type 0} → Shared F (MutBor S × (Bor (List ℕ) × Unit {0})) (Result Bool E × (MutBor S × Unit {0})) → F
    → (S → List ℕ → S → Type 0) → Type 0
GrantsBy {F} {S} {E} g f grants = (s : MutBor S) (change : Bor (List ℕ)) (r : Result Bool E) (t : MutBor S)
    → g.post f (s, (change, tt)) (r, (t, tt)) → Granted grants s.now change.now r t.now
