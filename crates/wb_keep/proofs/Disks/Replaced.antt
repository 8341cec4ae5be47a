-- A new file in place of another, call by call.
use Rattle.std.proofs.Common.{◌≡◌, ◌⊎◌, inl, inr, ⊎_elim, ℕ, Bool, true, false, List, ◌∷◌, length, sym, ◌∙◌, subst, arith}
use Rattle.wb_keep.specs.Disk.Device.{Elapses}
use Rattle.wb_keep.specs.Disk.Calls.{Call, made, made_durable, named, folder_synced, Reaches, MayLeave, LeftSince}
use Rattle.wb_keep.specs.Disk.Laws.{left_now}

-- a crash leaves what it might have left before, or the new bytes
abbrev pub Either : List Call → List ℕ → List Call → Type 0
Either old bytes new = (c : List ℕ) → MayLeave new c → MayLeave old c ⊎ (c ≡ bytes)

-- time goes on from these calls to those
abbrev pub Later : List Call → List Call → Type 0
Later old new = Elapses (length old) (length new) (LeftSince old) (LeftSince new) (MayLeave new)

pub one : (call : Call) (calls : List Call) → Later calls (call ∷ calls)
one call calls = record {
  later = omega arith;
  nothing_else = λ t c le left. ⊎_elim (λ now. inr now) (λ past. inl past.1) left;
  keeps = λ t c le past. inr (le, past);
}

pub one_more : (calls mid : List Call) (call : Call) → Later calls mid → ((c : List ℕ) → MayLeave mid c → MayLeave calls c ⊎ MayLeave (call ∷ mid) c) → Later calls (call ∷ mid)
one_more calls mid call so_far known = record {
  later = omega (arith, so_far.later);
  nothing_else = λ t c le left.
      ⊎_elim (λ now. inr now)
      (λ past. ⊎_elim (λ was. inl was) (λ between. ⊎_elim (λ old. inl (left_now calls t c le old)) (λ new. inr new) (known c between)) (so_far.nothing_else t c le past.1))
      left;
  keeps = λ t c le past. inr (omega (arith, le, so_far.later), so_far.keeps t c le past);
}

module _ (calls : List Call) (bytes : List ℕ) where
  -- the new file is written and synced, beside the old one
  abbrev written : List Call
  written = made bytes true ∷ calls

  abbrev ready : List Call
  ready = made_durable true ∷ written

  abbrev in_place : List Call
  in_place = named true ∷ ready

  pub beside_made : (done : Bool) (c : List ℕ) → MayLeave (made bytes done ∷ calls) c → MayLeave calls c
  beside_made true c (inl now) = inl now
  beside_made false c (inl now) = inl now
  beside_made true c (inr (d, reached, same)) = inr (subst (Reaches calls) (sym same) reached)
  beside_made false c (inr (d, reached, same)) = inr (subst (Reaches calls) (sym same) reached)

  pub beside_synced : (done : Bool) (c : List ℕ) → MayLeave (made_durable done ∷ written) c → MayLeave calls c
  beside_synced true c (inl now) = inl now
  beside_synced false c (inl now) = inl now
  beside_synced true c (inr (d, reached, same)) = beside_made true c (inr (subst (Reaches written) (sym same) reached))
  beside_synced false c (inr (d, reached, same)) = beside_made true c (inr (subst (Reaches written) (sym same) reached))

  reached_ready : (c : List ℕ) → Reaches ready c → MayLeave calls c
  reached_ready c reached = beside_synced true c (inr reached)

  -- the old file or the new one
  either : (d c : List ℕ) → Reaches ready d ⊎ (d ≡ bytes) → c ≡ d → MayLeave calls c ⊎ (c ≡ bytes)
  either d c (inl old) same = inl (reached_ready c (subst (Reaches ready) (sym same) old))
  either d c (inr new) same = inr (same ∙ new)

  pub in_place_either : (c : List ℕ) → MayLeave in_place c → MayLeave calls c ⊎ (c ≡ bytes)
  in_place_either c (inl now) = inr now
  in_place_either c (inr (d, which, same)) = either d c which same

  -- the same where the name was not given, and after the sync of the folder
  pub unnamed_either : (c : List ℕ) → MayLeave (named false ∷ ready) c → MayLeave calls c ⊎ (c ≡ bytes)
  unnamed_either c (inl now) = inl (inl now)
  unnamed_either c (inr (d, which, same)) = either d c which same

  pub folder_either : (done : Bool) (c : List ℕ) → MayLeave (folder_synced done ∷ in_place) c → MayLeave calls c ⊎ (c ≡ bytes)
  folder_either true c (inl now) = inr now
  folder_either false c (inl now) = inr now
  folder_either true c (inr (d, is, same)) = inr (same ∙ is)
  folder_either false c (inr (d, reached, same)) = subst (λ (x : List ℕ). MayLeave calls x ⊎ (x ≡ bytes)) (sym same) (in_place_either d (inr reached))

  -- and all moments of it
  pub synced_time : (done : Bool) → Later calls (made_durable done ∷ written)
  synced_time done = one_more calls written (made_durable done) (one (made bytes true) calls) (λ c now. inl (beside_made true c now))

  pub named_time : (done : Bool) → Later calls (named done ∷ ready)
  named_time done = one_more calls ready (named done) (synced_time true) (λ c now. inl (beside_synced true c now))

  seen_new : (done : Bool) (c : List ℕ) → c ≡ bytes → MayLeave (folder_synced done ∷ in_place) c
  seen_new true c new = inl new
  seen_new false c new = inl new

  pub folder_time : (done : Bool) → Later calls (folder_synced done ∷ in_place)
  folder_time done =
      one_more calls in_place (folder_synced done) (named_time true)
      (λ c now. ⊎_elim (λ old. inl old) (λ new. inr (seen_new done c new)) (in_place_either c now))
