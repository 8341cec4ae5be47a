-- Lines that lie ahead are taken one after the other.
use Rattle.std.proofs.Common.{◌≡◌, ℕ, List, [], ◌∷◌, ◌++◌, true, false, Bool, if◌then◌else◌, Option, Result, Ok, Err, OnOk, OnErr}
use Rattle.std.proofs.Common.{is_err, is_ok, true≢false, refl, sym, ap, ◌∙◌, subst, append_assoc, append-nil, flat_map}
use Rattle.wb_lines.specs.Lines.{AreUnbroken, BeginsWithLine, ended}
use Rattle.wb_lines.specs.Reading.{Reading, IsKept, IsSameReader, IsText, TakesPart}
use Rattle.wb_lines.specs.Turns.{TakesLines, IsTaken, AreTaken}
use Rattle.wb_lines.specs.declared.buffer.Line.{Line}
use Rattle.wb_lines.specs.declared.buffer.Line.TheVariants.{Whole, TooLong}
use Rattle.wb_lines.proofs.Waiting.{no_line}

pub same_reader : (a b c : Reading) → IsSameReader a b → IsSameReader b c → IsSameReader a c
same_reader a b c p q = record { reads = q.reads ∙ p.reads; at_end = q.at_end ∙ p.at_end; fault = q.fault ∙ p.fault }

pub takes_none : (old new : Reading) → new.ahead ≡ old.ahead → IsSameReader old new → TakesLines old new []
takes_none old new e s = record { unbroken = tt; bytes = sym e; same = s }

pub flat_append : (xs ys : List (List ℕ)) → flat_map ended (xs ++ ys) ≡ flat_map ended xs ++ flat_map ended ys
flat_append [] ys = refl
flat_append (x ∷ xs) ys = ap (λ l. ended x ++ l) (flat_append xs ys) ∙ sym (append_assoc (ended x) (flat_map ended xs) (flat_map ended ys))

pub unbroken_append : (xs ys : List (List ℕ)) → AreUnbroken xs → AreUnbroken ys → AreUnbroken (xs ++ ys)
unbroken_append [] ys p q = q
unbroken_append (x ∷ xs) ys p q = (p.0, unbroken_append xs ys p.1 q)

pub takes_more : (a b c : Reading) (xs ys : List (List ℕ)) → TakesLines a b xs → TakesLines b c ys → TakesLines a c (xs ++ ys)
takes_more a b c xs ys p q = record {
  unbroken = unbroken_append xs ys p.unbroken q.unbroken;
  bytes = p.bytes ∙ ap (λ l. flat_map ended xs ++ l) q.bytes ∙ sym (append_assoc (flat_map ended xs) (flat_map ended ys) c.ahead) ∙ ap (λ l. l ++ c.ahead)
      (sym (flat_append xs ys));
  same = same_reader a b c p.same q.same;
}

text_by : (long : Bool) (line : Line) (kept text : List ℕ) → line ≡ (if long then TooLong else Whole) → IsKept text kept long → IsText line kept text
text_by true line kept text e k = subst (λ l. IsText l kept text) (sym e) (k.beyond refl)
text_by false line kept text e k = subst (λ l. IsText l kept text) (sym e) (sym (k.whole refl), k.short refl)

-- a line that lay ahead with its end was taken
pub ready_text : (old mid new : Reading) (line : Line) → line ≡ (if new.long then TooLong else Whole) → mid.ahead ≡ old.ahead → IsKept [] mid.line mid.long
    → IsSameReader old mid → TakesPart mid new true → (text : List ℕ) × IsText line new.line text × TakesLines old new (text ∷ [])
ready_text old mid new line e a k s t = (
  t.part,
  text_by new.long line new.line t.part e (t.kept [] k),
  record {
    unbroken = (t.unbroken, tt);
    bytes = sym a ∙ t.ends refl ∙ ap (λ l. l ++ new.ahead) (sym (append-nil (ended t.part)));
    same = same_reader old mid new s t.same;
  },
)

-- where a line lay ahead, its end was found
pub always_found : (old mid new : Reading) → BeginsWithLine old.ahead → mid.ahead ≡ old.ahead → TakesPart mid new false → ⊥
always_found old mid new begins a t = no_line old.ahead [] t.part begins (append-nil old.ahead ∙ sym a ∙ (t.all refl).0) t.unbroken

pub taken_push : {P : Type 0} (reads : List ℕ → P → Type 0) (ls : List (List ℕ)) (ts : List (Option P)) (l : List ℕ) (t : Option P)
    → AreTaken reads ls ts → IsTaken reads l t → AreTaken reads (ls ++ l ∷ []) (ts ++ t ∷ [])
taken_push reads [] [] l t a i = (i, tt)
taken_push reads [] (u ∷ ts) l t a i = absurd a
taken_push reads (k ∷ ls) [] l t a i = absurd a
taken_push reads (k ∷ ls) (u ∷ ts) l t a i = (a.0, taken_push reads ls ts l t a.1 i)

-- the clause of a call that is known to be well
pub on_ok_at : {A E : Type 0} (r : Result A E) (X : Type 0) (b : Bool) → b ≡ is_err r → b ≡ false → OnOk r X → X
on_ok_at (Ok a) X b v f h = h
on_ok_at (Err e) X b v f h = absurd (true≢false (sym v ∙ f))

pub on_err_at : {A E : Type 0} (r : Result A E) (X : Type 0) (b : Bool) → b ≡ is_err r → b ≡ true → OnErr r X → X
on_err_at (Ok a) X b v f h = absurd (true≢false (sym f ∙ v))
on_err_at (Err e) X b v f h = h

pub pushed : {A E T : Type 0} (r : Result A E) (b : Bool) (old new : List T) (x : T) → b ≡ is_err r → b ≡ false → new ≡
    (if is_ok r then old ++ x ∷ [] else old) → new ≡ old ++ x ∷ []
pushed (Ok a) b old new x v f h = h
pushed (Err e) b old new x v f h = absurd (true≢false (sym v ∙ f))

module _ {P E : Type 0} (reads : List ℕ → P → Type 0) where
  -- the first line of a turn, and those behind it
  pub first_and_more : (line : Line) (kept : List ℕ) (old new : Reading) (t : Option P) (one held : List (Option P)) (r : Result (Unit {0}) E)
      → one ≡ t ∷ [] → ((text : List ℕ) → IsText line kept text → IsTaken reads text t)
      → (more : List (List ℕ)) × TakesLines old new more × OnOk r ((first : List (List ℕ)) → AreTaken reads first one → AreTaken reads (first ++ more) held)
      → (more : List (List ℕ)) × TakesLines old new more × OnOk r ((first : List ℕ) → IsText line kept first → AreTaken reads (first ∷ more) held)
  first_and_more line kept old new t one held (Ok u) e h (more, takes, f) =
      (more, takes, λ first is. f (first ∷ []) (subst (λ ts. AreTaken reads (first ∷ []) ts) (sym e) (h first is, tt)))
  first_and_more line kept old new t one held (Err x) e h (more, takes, f) = (more, takes, tt)
