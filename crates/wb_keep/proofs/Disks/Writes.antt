-- A write is noted.
use Rattle.std.proofs.Common.{◌≡◌, inl, inr, ℕ, ◌+◌, ◌-◌, ◌≤◌, Bool, true, false, List, ◌∷◌, ◌++◌, length, get_or, take, drop, refl, sym, ◌∙◌, ap, subst, arith, append_assoc, length-append, length-drop}
use Rattle.std.proofs.lemmas.Bool.{cases_lt}
use Rattle.std.proofs.lemmas.List.{take_at, drop_at, length-take-le, get_or-append_right, get_or_append_left, get_or-drop}
use Rattle.wb_keep.specs.Disk.Device.{OneOf, Torn}
use Rattle.wb_keep.specs.Disk.Calls.{Call, written, laid, seen_after, MayLeave}

-- a file as it is, as one that was torn
pub torn_none : (at : ℕ) (bytes file : List ℕ) → Torn at bytes file file
torn_none at bytes file = record { before = refl; each = λ i. inl refl; after = refl; no_shorter = omega arith; no_longer = omega arith }

-- and with the whole write
pub torn_all : (at : ℕ) (bytes old : List ℕ) → at ≤ length old → Torn at bytes old (laid old at bytes)
torn_all at bytes old within = record {
  before = ap (λ (l : List ℕ). take at l) (append_assoc (take at old) bytes rest) ∙ take_at (take at old) (bytes ++ rest) at front;
  each = each;
  after = drop_at (take at old ++ bytes) rest (at + length bytes) (omega (arith, front, length-append (take at old) bytes));
  no_shorter = omega (arith, long, left, within);
  no_longer = omega (arith, long, left, within);
}
  where
    rest : List ℕ
    rest = drop (at + length bytes) old

    front : length (take at old) ≡ at
    front = length-take-le at old within

    left : length rest ≡ length old - (at + length bytes)
    left = length-drop (at + length bytes) old

    long : length (laid old at bytes) ≡ at + length bytes + length rest
    long = length-append (take at old ++ bytes) rest ∙ ap (λ (n : ℕ). n + length rest) (length-append (take at old) bytes ∙ ap (λ (n : ℕ). n + length bytes) front)

    shift : (i : ℕ) → get_or (laid old at bytes) (at + i) 0 ≡ get_or (bytes ++ rest) i 0
    shift i = let same : at + i - at ≡ i = omega arith in ap (λ (l : List ℕ). get_or l (at + i) 0) (append_assoc (take at old) bytes rest) ∙ get_or-append_right (take at old) (bytes ++ rest) at (at + i) 0 front (omega arith) ∙ ap (λ (n : ℕ). get_or (bytes ++ rest) n 0) same

    each : (i : ℕ) → OneOf (get_or old (at + i) 0) (get_or bytes i 0) (get_or (laid old at bytes) (at + i) 0)
    each i = elim (cases_lt i (length bytes)) [
      | inl lt ↦ inr (inl (shift i ∙ get_or_append_left bytes rest 0 i lt))
      | inr ge ↦
          let same : at + length bytes + (i - length bytes) ≡ at + i = omega (arith, ge) in
          inl (shift i ∙ get_or-append_right bytes rest (length bytes) i 0 refl ge ∙ get_or-drop (at + length bytes) old (i - length bytes) 0 ∙ ap (λ (n : ℕ). get_or old n 0) same)
    ]

-- what a crash leaves after it, it left before or a write that is cut short makes of that
pub write_follows : (at : ℕ) (bytes : List ℕ) (done : Bool) (calls : List Call) → at ≤ length (seen_after calls) → (c : List ℕ) → MayLeave (written at bytes done ∷ calls) c → (d : List ℕ) × MayLeave calls d × Torn at bytes d c
write_follows at bytes true calls le c (inl now) = (seen_after calls, inl refl, subst (Torn at bytes (seen_after calls)) (sym now) (torn_all at bytes (seen_after calls) le))
write_follows at bytes false calls le c (inl now) = (seen_after calls, inl refl, subst (Torn at bytes (seen_after calls)) (sym now) (torn_none at bytes (seen_after calls)))
write_follows at bytes true calls le c (inr (d, reached, torn)) = (d, inr reached, torn)
write_follows at bytes false calls le c (inr (d, reached, torn)) = (d, inr reached, torn)
