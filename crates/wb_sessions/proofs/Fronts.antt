-- Texts that are sent one after another.
use Rattle.std.proofs.Common.{◌≡◌, ℕ, List, Option, Result, Ok, Err, is_err, true, true≢false, inl, inr, refl, OnOk, OnErr, ◌<◌, ◌++◌, length, take, drop, sym, ap, ◌∙◌, append_assoc, take-append-drop}
use lib.Seq.{take-append_seam}
use Rattle.std.proofs.KnownBytes.{Appends-trans}
use Rattle.std.specs.Io.KnownBytes.{Appends}
use Rattle.wb_statuses.specs.Statuses.{IsPrinted}
use Rattle.wb_sessions.specs.Upgrading.{AppendsFront}

pub on_err : {E P : Type 0} (r : Result (Unit {0}) E) → P → OnErr r P
on_err (Ok u) p = tt
on_err (Err x) p = p

-- what `send` says after a fault
abbrev pub Part : Option (List ℕ) → Option (List ℕ) → List ℕ → Type 0
Part old new bytes = (n : ℕ) × (n < length bytes) × Appends old new (take n bytes)

pub front_of_part : (old new : Option (List ℕ)) (bytes : List ℕ) → Part old new bytes → AppendsFront old new bytes
front_of_part old new bytes p = (take p.0 bytes, p.2, (drop p.0 bytes, sym (take-append-drop p.0 bytes)))

-- a front of the first text, which another one follows
pub front_before : (old new : Option (List ℕ)) (first second : List ℕ) → AppendsFront old new first → AppendsFront old new (first ++ second)
front_before old new first second p =
    (p.0, p.1, (p.2.0 ++ second, ap (λ t. t ++ second) p.2.1 ∙ append_assoc p.0 p.2.0 second))

-- the first text, and a front of the second
pub front_behind : (old mid new : Option (List ℕ)) (first second : List ℕ) → Appends old mid first → AppendsFront mid new second
    → AppendsFront old new (first ++ second)
front_behind old mid new first second sent p =
    (first ++ p.0, Appends-trans old mid new first p.0 sent p.1, (p.2.0, ap (λ t. first ++ t) p.2.1 ∙ sym (append_assoc first p.0 p.2.0)))

-- both texts, or the first and a front of the second
pub sent_behind : {E : Type 0} (r : Result (Unit {0}) E) (old mid new : Option (List ℕ)) (first second : List ℕ) → Appends old mid first
    → OnOk r (Appends mid new second) → OnOk r (Appends old new (first ++ second))
sent_behind (Ok u) old mid new first second sent h = Appends-trans old mid new first second sent h
sent_behind (Err x) old mid new first second sent h = tt

pub part_behind : {E : Type 0} (r : Result (Unit {0}) E) (old mid new : Option (List ℕ)) (first second : List ℕ) → Appends old mid first
    → OnErr r (Part mid new second) → OnErr r (AppendsFront old new (first ++ second))
part_behind (Ok u) old mid new first second sent h = tt
part_behind (Err x) old mid new first second sent h = front_behind old mid new first second sent (front_of_part mid new second h)

-- the text in three pieces, each of which is two
pub regroup : (a b c d e : List ℕ) → ((a ++ b) ++ (c ++ d)) ++ e ≡ a ++ (b ++ (c ++ (d ++ e)))
regroup a b c d e = simp append_assoc

-- a front of a text was printed, at a fault
pub front_printed : (old new : Option (List ℕ)) (whole : List ℕ) → AppendsFront old new whole → (text : List ℕ) × Appends old new text × IsPrinted whole 3 text
front_printed old new whole p =
    let front = p.0 in
    (front, p.1, inr (inl refl, (length front, sym (ap (take (length front)) p.2.1 ∙ take-append_seam front p.2.0))))

-- what a call says at `Err`
pub err_of : {E P : Type 0} (r : Result (Unit {0}) E) → is_err r ≡ true → OnErr r P → P
err_of (Ok u) e h = absurd (true≢false (sym e))
err_of (Err x) e h = h
