-- Where no line lies ahead, a writer was flushed.
use Rattle.std.proofs.Common.{◌≡◌, ◌⊎◌, inl, inr, ℕ, List, [], ◌∷◌, ◌++◌, Bool, true, false, refl, sym, ap, ◌∙◌, subst, append_assoc, append-nil}
use Rattle.wb_lines.specs.Lines.{IsUnbroken, BeginsWithLine, ended}
use Rattle.wb_lines.specs.Reading.{Reading, Takes, TakesPart}

broken : (line rest : List ℕ) → IsUnbroken (ended line ++ rest) → ⊥
broken [] rest h = h.0 refl
broken (b ∷ line) rest h = broken line rest h.1

pub no_line : (ahead got text : List ℕ) → BeginsWithLine ahead → ahead ++ got ≡ text → IsUnbroken text → ⊥
no_line ahead got text begins e h =
    let split = sym e ∙ ap (λ x. x ++ got) begins.3 ∙ append_assoc (ended begins.0) begins.1 got in
    broken begins.0 (begins.1 ++ got) (subst IsUnbroken split h)

-- All that lay ahead was taken, and it held no line end.
pub flushed_at : (flushed : Bool) (old new : Reading) (got text : List ℕ) → (flushed ≡ true) ⊎ BeginsWithLine old.ahead
    → Takes old new got text → IsUnbroken text → new.ahead ≡ [] → flushed ≡ true
flushed_at flushed old new got text (inl yes_it_is) t u none = yes_it_is
flushed_at flushed old new got text (inr begins) t u none =
    absurd (no_line old.ahead got text begins (t.bytes ∙ ap (λ x. text ++ x) none ∙ append-nil text) u)

-- what lies ahead holds no line end, so a writer was flushed
pub flushed_in : (flushed : Bool) (old new : Reading) → (flushed ≡ true) ⊎ BeginsWithLine old.ahead → TakesPart old new false → flushed ≡ true
flushed_in flushed old new (inl yes_it_is) t = yes_it_is
flushed_in flushed old new (inr begins) t = absurd (no_line old.ahead [] t.part begins (append-nil old.ahead ∙ (t.all refl).0) t.unbroken)
