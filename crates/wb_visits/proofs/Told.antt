-- A line that was sent, and then flushed.
use Rattle.std.proofs.Common.{◌≡◌, ℕ, Bool, true, false, List, Option, Result, Ok, Err, OnErr, OnOk, is_err, length, ◌<◌, inl, inr, refl, subst, sym, true≢false, le_refl, take, take_all}
use Rattle.std.proofs.KnownBytes.{Appends-kept}
use Rattle.std.specs.Io.KnownBytes.{Appends, Keeps}
use Rattle.wb_visits.specs.NoSeat.{IsTold, no_seat}

-- what was sent stays there at a flush
pub sent_whole : {A E : Type 0} (r : Result A E) (old mid new : Option (List ℕ)) (bs : List ℕ) → OnOk r (Appends old mid bs) → is_err r ≡ false
    → Keeps mid new → Appends old new bs
sent_whole (Ok a) old mid new bs h e k = Appends-kept old mid new bs h k
sent_whole (Err x) old mid new bs h e k = absurd (true≢false e)

-- it was told, or the flush failed
pub told_by : {A E : Type 0} (r : Result A E) (flushed failed : Bool) → OnOk r (flushed ≡ true) → failed ≡ is_err r → IsTold flushed failed no_seat
told_by (Ok a) flushed failed sent cause = inl (refl, sent)
told_by (Err x) flushed failed sent cause =
    inr (cause, (length no_seat, sym (take_all (length no_seat) no_seat (le_refl (length no_seat)))))

-- a front of it was told, where a write failed
pub told_in_part : {A E : Type 0} (r : Result A E) (old new : Option (List ℕ)) (bs : List ℕ) (flushed failed : Bool)
    → OnErr r ((n : ℕ) × (n < length bs) × Appends old new (take n bs)) → OnErr r (failed ≡ true) → is_err r ≡ true → bs ≡ no_seat
    → (text : List ℕ) × Appends old new text × IsTold flushed failed text
told_in_part (Ok a) old new bs flushed failed part cause e all = absurd (true≢false (sym e))
told_in_part (Err x) old new bs flushed failed part cause e all =
    (take part.0 no_seat, subst (λ b. Appends old new (take part.0 b)) all part.2, inr (cause, (part.0, refl)))
