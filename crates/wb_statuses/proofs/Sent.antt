-- A text that was sent, and then flushed.
use Rattle.std.proofs.Common.{◌≡◌, ℕ, false, List, Option, Result, Ok, Err, OnOk, is_err, length, inl, inr, refl, sym, true≢false, le_refl, take, take_all, subst, ap, ◌∙◌}
use Rattle.std.proofs.KnownBytes.{Appends-kept}
use Rattle.std.specs.Io.KnownBytes.{Appends, Keeps}
use Rattle.wb_statuses.proofs.Faults.{no_fault_of_0}
use Rattle.wb_statuses.specs.Statuses.{IsFault, IsPrinted}

-- what was sent stays there at a flush
pub sent_whole : {A E : Type 0} (r : Result A E) (old mid new : Option (List ℕ)) (bs : List ℕ) → OnOk r (Appends old mid bs) → is_err r ≡ false
    → Keeps mid new → Appends old new bs
sent_whole (Ok a) old mid new bs h e k = Appends-kept old mid new bs h k
sent_whole (Err x) old mid new bs h e k = absurd (true≢false e)

pub printed : (whole : List ℕ) → IsPrinted whole 0 whole
printed whole = inl (refl, refl)

-- the fault came after all was sent
pub printed_at_fault : (whole : List ℕ) → IsPrinted whole 3 whole
printed_at_fault whole = inr (inl refl, (length whole, sym (take_all (length whole) whole (le_refl (length whole)))))

-- what was told with status 0 is the whole text
pub told_whole : (old new : Option (List ℕ)) (told whole text : List ℕ) (status : ℕ) → status ≡ 0 → told ≡ whole → Appends old new text
    → IsPrinted told status text → Appends old new whole
told_whole old new told whole text status e is added (inl all) = subst (λ t. Appends old new t) (all.1 ∙ is) added
told_whole old new told whole text status e is added (inr part) = absurd (no_fault_of_0 status e part.0)

-- and with another one a front of it
pub told_front : (old new : Option (List ℕ)) (told whole text : List ℕ) (status : ℕ) → (status ≡ 0 → ⊥) → told ≡ whole → Appends old new text
    → IsPrinted told status text → IsFault status × ((count : ℕ) × Appends old new (take count whole))
told_front old new told whole text status e is added (inl all) = absurd (e all.0)
told_front old new told whole text status e is added (inr part) =
    (part.0, (part.1.0, subst (λ t. Appends old new t) (part.1.1 ∙ ap (λ l. take part.1.0 l) is) added))
