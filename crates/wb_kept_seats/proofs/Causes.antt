-- What holds where there is no cause.
use Rattle.std.proofs.Common.{◌≡◌, Some, None, refl}
use Rattle.std.specs.Prelude.{Option, MatchOption}

pub none_left : {X : Type 0} (o : Option X) (A : Type 0) (B : X → Type 0) → ((x : X) → o ≡ Some x → ⊥) → MatchOption o A B → A
none_left None A B never h = h
none_left (Some x) A B never h = absurd (never x refl)
