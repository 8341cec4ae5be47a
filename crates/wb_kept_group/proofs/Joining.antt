-- Turns behind turns.
use Rattle.std.proofs.Common.{◌≡◌, ℕ, ◌<◌, ◌≤◌, Result, Ok, Err, List, ◌++◌, refl, sym, ap, ◌∙◌, subst, inr, append_assoc}
use Rattle.std.specs.Prelude.{◌^◌, IfErr}
use Rattle.std.proofs.lemmas.List.Concat.{flat_map-append}
use Rattle.wb_keep.specs.Disk.Device.{LeavesOnly}
use Rattle.wb_keep.proofs.Disks.Moments.{joined}
use Rattle.wb_keep.specs.Lines.{recovered, HasHeader}
use Rattle.wb_keep.specs.Keep.{IsSettled, IsBeforeOrAfter}
use Rattle.wb_keep.specs.Repair.{StandsForTheSame}
use Rattle.wb_keep.specs.declared.keep.AppendErr.{AppendErr}
use Rattle.wb_keep.specs.declared.keep.AppendErr.TheVariants.{Failed, Full, Memory}
use Rattle.wb_keep.specs.declared.keep.LineLog.{LineLog}
use Rattle.wb_kept_group.specs.Together.{changes_in, Tells}

pub changes-append : (xs ys : List (List (List ℕ))) → changes_in (xs ++ ys) ≡ changes_in xs ++ changes_in ys
changes-append xs ys = flat_map-append (λ (turn : List (List ℕ)). turn) xs ys

-- the lines from before, and the changes of turns behind turns
pub lines_behind : (opening : List (List ℕ)) (before turns : List (List (List ℕ))) → (opening ++ changes_in before) ++ changes_in turns ≡ opening ++ changes_in (before ++ turns)
lines_behind opening before turns = append_assoc opening (changes_in before) (changes_in turns) ∙ ap (λ (ls : List (List ℕ)). opening ++ ls) (sym (changes-append before turns))

module _ {D : Type 0} (seen : D → List ℕ) (may_leave : D → List ℕ → Type 0) (moment : D → ℕ) (left_since : D → ℕ → List ℕ → Type 0) where
  -- lines were added, and then the file was brought to an end in which it stands for the same
  pub last_moments : (old mid : LineLog D) (new : D) (was before text more : List (List ℕ)) → IsSettled seen may_leave mid → recovered (seen mid.device) ≡ was ++ text → was ≡ before → text ≡ more
      → LeavesOnly moment left_since old.device mid.device (IsBeforeOrAfter was text) → LeavesOnly moment left_since mid.device new (StandsForTheSame (seen mid.device))
      → LeavesOnly moment left_since old.device new (IsBeforeOrAfter before more)
  last_moments old mid new was before text more s lines same_before same_more added closed =
      subst (λ (ls : List (List ℕ)). LeavesOnly moment left_since old.device new (IsBeforeOrAfter ls more)) same_before
      (subst (λ (ls : List (List ℕ)). LeavesOnly moment left_since old.device new (IsBeforeOrAfter was ls)) same_more
      (joined moment left_since old.device mid.device new (IsBeforeOrAfter was text) (StandsForTheSame (seen mid.device)) added closed
      (λ c same. record { head = same.head (subst HasHeader (sym s.file.is) refl); lines = inr (same.lines ∙ lines) })))

-- an error of a call on a log, of which each kind has its cause, tells truly of the call
pub tells_truly : {D X : Type 0} (faults : D → ℕ) (r : Result X AppendErr) (old new : LineLog D) → (r ≡ Err Memory → new ≡ old)
    → (r ≡ Err Failed → faults old.device < faults new.device) → (r ≡ Err Full → 2 ^ 60 ≤ old.mark) → (r ≡ Err Full → new ≡ old)
    → IfErr r (λ e. Tells faults e old new)
tells_truly faults (Ok x) old new memory failed full no_room = tt
tells_truly faults (Err Memory) old new memory failed full no_room = memory refl
tells_truly faults (Err Failed) old new memory failed full no_room = failed refl
tells_truly faults (Err Full) old new memory failed full no_room = (full refl, no_room refl)
