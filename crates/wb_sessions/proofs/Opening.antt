-- The text up to the first line `end`, and bytes that are put back.
use Rattle.std.proofs.Common.{◌≡◌, ◌∙◌, ◌+◌, ◌≤◌, inl, inr, ℕ, Bool, List, [], ◌++◌, length, take}
use Rattle.std.proofs.Common.{Option, Some, None, option_map, is_some, true, IfNone, IfSome, sym, ap, subst, arith}
use Rattle.std.proofs.lemmas.List.{append-nil, append_assoc, get_or-take, length-take-le}
use Rattle.std.specs.Io.KnownBytes.{Appends, Consumes}
use Rattle.memchr.specs.Find.{OccursAt, FindsNeedle}
use Rattle.wb_lines.specs.Causes.{RisesBy}
use Rattle.wb_lines.specs.Reading.{read_limit}
use Rattle.wb_sessions.specs.Running.{HasFailed, HasFailedByNow}
use Rattle.wb_sessions.specs.Resuming.{last_line, IsUpToEnd, HasNoEnd}

-- ---- the first line `end`

occurs_front : (hay : List ℕ) (m k : ℕ) → k + 5 ≤ m → m ≤ length hay → OccursAt hay last_line k → OccursAt (take m hay) last_line k
occurs_front hay m k low high h =
    let size = length-take-le m hay high in
    record { fits = omega (arith, low, size); reads = λ j l. get_or-take m hay (k + j) 0 (omega (arith, l, low)) ∙ h.reads j l }

occurs_whole : (hay : List ℕ) (m k : ℕ) → m ≤ length hay → OccursAt (take m hay) last_line k → OccursAt hay last_line k
occurs_whole hay m k high h =
    let size = length-take-le m hay high in
    let fits = h.fits in
    record { fits = omega (arith, fits, size, high); reads = λ j l. sym (get_or-take m hay (k + j) 0 (omega (arith, l, fits, size))) ∙ h.reads j l }

pub up_to_end : (hay : List ℕ) (place : ℕ) → FindsNeedle hay last_line 0 (Some place) → IsUpToEnd (take (place + 5) hay)
up_to_end hay place h =
    let fits = h.1.fits in
    let high : place + 5 ≤ length hay = omega (arith, fits) in
    let size = length-take-le (place + 5) hay high in
    record {
      place = place;
      first = (
        record { low = h.0.low; high = omega (arith, size); before = λ k l m o. h.0.before k l m (occurs_whole hay (place + 5) k high o) },
        occurs_front hay (place + 5) place (omega arith) high h.1,
      );
      last = size;
    }

pub has_one : (hay : List ℕ) (r : Option ℕ) → FindsNeedle hay last_line 0 r → is_some r ≡ true → HasNoEnd hay → ⊥
has_one hay None h e none = cc
has_one hay (Some j) h e none = none j h.0.low h.0.high h.1

-- ---- bytes before those of a reader

abbrev pub behind : List ℕ → Option (List ℕ) → Option (List ℕ)
behind xs o = option_map (λ t. xs ++ t) o

-- what was read up to a place, and then from there on
pub reads_on : (old mid new : Option (List ℕ)) (bytes front back asked : List ℕ) → Consumes old mid bytes → bytes ≡ front ++ back →
    Consumes (behind back mid) new asked → Consumes old new (front ++ asked)
reads_on None mid new bytes front back asked h e k = tt
reads_on (Some xs) None new bytes front back asked h e k = absurd h
reads_on (Some xs) (Some m) None bytes front back asked h e k = absurd k
reads_on (Some xs) (Some m) (Some n) bytes front back asked h e k =
    h ∙ ap (λ zs. zs ++ m) e ∙ append_assoc front back m ∙ ap (λ zs. front ++ zs) k ∙ sym (append_assoc front asked n)

pub nothing_more : (o : Option (List ℕ)) → Appends o o []
nothing_more None = tt
nothing_more (Some xs) = sym (append-nil xs)

-- ---- the value of a result

pub of_none : {X : Type 0} (o : Option X) (P : Type 0) → o ≡ None → IfNone o P → P
of_none None P e h = h
of_none (Some x) P e h = cc

pub of_some : {X : Type 0} (o : Option X) (P : X → Type 0) (x : X) → o ≡ Some x → IfSome o P → P x
of_some None P x e h = cc
of_some (Some y) P x e h = let f : y ≡ x = cc in subst P f h

-- ---- how often a reader was read

-- after so many reads before
pub failed_later : (m : ℕ) (f : Bool) (a b c : ℕ) (w : Bool) → RisesBy m a b → HasFailed f b c w → HasFailedByNow f a c w
failed_later m f a b c w p (inl h) = inl h
failed_later m f a b c w p (inr (inl h)) = inr (inl (m + read_limit, omega arith, omega (arith, p, h)))
failed_later m f a b c w p (inr (inr h)) = inr (inr h)
