-- Why the changes of a turn are not kept.
use Rattle.std.proofs.Common.{◌≡◌, ◌<◌, ℕ, Result, Ok, Err, refl, sym, ◌∙◌}
use Rattle.std.specs.Prelude.{◌≢◌}
use Rattle.wb_kept_group.specs.declared.group.keeper.KeepErr.{KeepErr}
use Rattle.wb_kept_group.specs.declared.group.keeper.KeepErr.TheVariants as keeping
use Rattle.wb_keep.specs.declared.keep.AppendErr.{AppendErr}
use Rattle.wb_keep.specs.declared.keep.AppendErr.TheVariants as appending
use Rattle.wb_keep.specs.declared.keep.LineLog.{LineLog}
use Rattle.wb_kept_group.specs.Together.{Tells}
use Rattle.wb_kept_seats.specs.Committing.{commit_err}
use Rattle.wb_kept_seats.specs.declared.commit.CommitErr.{CommitErr}
use Rattle.wb_kept_seats.specs.declared.commit.CommitErr.TheVariants.{NoMemory, DiskFault, Closed}

-- Where it was not closed before, the file answered an error. A fault of the disk is told only of a call in which the file failed, and want
-- of memory only of one that left it as it was.
pub failed_by : {D : Type 0} (faults : D → ℕ) (error : KeepErr AppendErr) (why : CommitErr) → why ≡ commit_err error → why ≢ Closed
    → (e : AppendErr) × (error ≡ keeping.Failed e)
    × ((old new : LineLog D) → Tells faults e old new → (why ≡ DiskFault → faults old.device < faults new.device) × (why ≡ NoMemory → new ≡ old))
failed_by faults keeping.Closed why is other = absurd (other is)
failed_by faults (keeping.Failed appending.Failed) why is other =
    (appending.Failed, refl, λ old new told. ((λ fault. told), λ want. absurd (let no : DiskFault ≡ NoMemory = sym is ∙ want in cc)))
failed_by faults (keeping.Failed appending.Memory) why is other =
    (appending.Memory, refl, λ old new told. ((λ fault. absurd (let no : NoMemory ≡ DiskFault = sym is ∙ fault in cc)), λ want. told))
failed_by faults (keeping.Failed appending.Full) why is other =
    (appending.Full, refl, λ old new told. ((λ fault. absurd (let no : NoMemory ≡ DiskFault = sym is ∙ fault in cc)), λ want. told.1))

-- a fault of the disk is told only where the file answered that it failed
pub fault_by : (error : KeepErr AppendErr) → commit_err error ≡ DiskFault → error ≡ keeping.Failed appending.Failed
fault_by keeping.Closed fault = absurd (let no : Closed ≡ DiskFault = fault in cc)
fault_by (keeping.Failed appending.Failed) fault = refl
fault_by (keeping.Failed appending.Memory) fault = absurd (let no : NoMemory ≡ DiskFault = fault in cc)
fault_by (keeping.Failed appending.Full) fault = absurd (let no : NoMemory ≡ DiskFault = fault in cc)

pub same_error : {X E : Type 0} (r : Result X E) (e f : E) → r ≡ Err e → r ≡ Err f → e ≡ f
same_error r e f p q = cc (p, q)

pub no_error : {X E : Type 0} (r : Result X E) (x : X) (e : E) → r ≡ Ok x → r ≡ Err e → ⊥
no_error r x e p q = cc (p, q)
