-- What contracts see of the entries of the log, and that a step leaves it as it was.
use Rattle.std.proofs.Common.{◌≡◌, ℕ, zero, suc, ◌<◌, List, [], ◌∷◌, Option, Some, Result, Ok, Err, IfOk, OnErr, length, slice_get, arith, refl, ap, ◌∙◌}
use Rattle.std.proofs.lemmas.List.{length-map}
use Rattle.selective_undo.proofs.Log.{get-map}
use Rattle.wb_cells.specs.Cells.{Contents}
use Rattle.wb_edit.specs.declared.edit.Edit as command
use Rattle.wb_log.specs.declared.entry.LoggedEdit as kept
use Rattle.wb_log.specs.Kept.{numbered, numbered_entries}
use Rattle.wb_log.specs.Past.{Past}

-- what contracts see of entries and a count of writes
abbrev pub seen : List kept.LoggedEdit → ℕ → Past
seen es w = record { entries = numbered_entries es; writes = w }

pub seen_at : (es : List kept.LoggedEdit) (k : ℕ) (x : kept.LoggedEdit) → slice_get es k ≡ Some x → slice_get (numbered_entries es) k ≡ Some (numbered x)
seen_at es k x is = rw (get-map numbered es k, is) refl

-- a place that contracts see is one of the entries
pub place_in : (es : List kept.LoggedEdit) (w k : ℕ) (p : Past) → seen es w ≡ p → k < length p.entries → k < length es
place_in es w k p is low = omega (arith, low, ap (λ q. length q.entries) is, length-map es numbered)

pub entry_in : (es : List kept.LoggedEdit) (k : ℕ) → k < length es → (x : kept.LoggedEdit) × (slice_get es k ≡ Some x)
entry_in [] k low = absurd (omega (arith, low))
entry_in (x ∷ es) zero low = (x, refl)
entry_in (x ∷ es) (suc k) low = entry_in es k (omega (arith, low))

-- nothing has changed
pub same_seen : {X E : Type 0} (r : Result X E) (es fs : List kept.LoggedEdit) (b d : Contents) → OnErr r (numbered_entries fs ≡ numbered_entries es) →
    OnErr r (d ≡ b) → OnErr r (seen fs d.writes ≡ seen es b.writes)
same_seen (Ok x) es fs b d stays same = tt
same_seen (Err e) es fs b d stays same = rw (stays, same) refl

pub same_if_ok : {X E Y : Type 0} (f : X → Y) (r : Result X E) (y : Y) {o : Option Y} → IfOk r (λ x. f x ≡ y) → Some y ≡ o → IfOk r (λ x. Some (f x) ≡ o)
same_if_ok f (Ok x) y is there = ap Some is ∙ there
same_if_ok f (Err e) y is there = tt
