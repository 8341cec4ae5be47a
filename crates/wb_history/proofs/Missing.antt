-- What is answered of a number: what its place is, or that no edit has it.
use Rattle.std.proofs.Common.{◌≡◌, ℕ, zero, suc, ◌-◌, ◌<◌, List, None, option_map, Result, Err, slice_get, arith, refl, ap, subst, ◌∙◌}
use Rattle.selective_undo.proofs.Log.{get-map}
use Rattle.wb_edit.specs.declared.refusal.Refusal.{Refusal}
use Rattle.wb_edit.specs.declared.refusal.Refusal.TheVariants.{NoSuchEdit}
use Rattle.wb_log.specs.Cascades.{OfNumber}
use Rattle.wb_log.specs.Past.{Numbered, entry_at, meant}
use Rattle.wb_log.specs.Replies.{ByNumber}
use Rattle.wb_history.specs.Restored.{numbered_at}

no_entry : (es : List Numbered) (k : ℕ) → slice_get es k ≡ None → slice_get (meant es) k ≡ None
no_entry es k none = get-map (λ x. entry_at x.edit x.in_force) es k ∙ ap (option_map (λ x. entry_at x.edit x.in_force)) none

pub none_by_number : (Reply : ℕ → Result ℕ Refusal → Type 0) (es : List Numbered) (n : ℕ) → ((k : ℕ) → slice_get (meant es) k ≡ None → Reply k (Err NoSuchEdit))
    → numbered_at es n ≡ None → ByNumber Reply n (Err NoSuchEdit)
none_by_number Reply es zero missing none = refl
none_by_number Reply es (suc k) missing none = missing k (no_entry es k none)

pub none_of_number : {X : Type 0} (Reply : ℕ → Result X Refusal → Type 0) (es : List Numbered) (n : ℕ)
    → ((k : ℕ) → slice_get (meant es) k ≡ None → Reply k (Err NoSuchEdit)) → numbered_at es n ≡ None → OfNumber Reply n (Err NoSuchEdit)
none_of_number Reply es zero missing none = refl
none_of_number Reply es (suc k) missing none = missing k (no_entry es k none)

pub by_place : (Reply : ℕ → Result ℕ Refusal → Type 0) (n k : ℕ) (r : Result ℕ Refusal) → 0 < n → k ≡ n - 1 → Reply k r → ByNumber Reply n r
by_place Reply zero k r some is reply = absurd (omega (arith, some))
by_place Reply (suc m) k r some is reply = let same : k ≡ m = omega (arith, is) in subst (λ (j : ℕ). Reply j r) same reply
