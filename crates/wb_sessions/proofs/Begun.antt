-- How a journal begins with a history, or why it doesn't.
use Rattle.std.proofs.Common.{◌≡◌, ◌⊎◌, ◌∙◌, inl, inr, ℕ, Bool, List, [], ◌++◌, Option, Some, None, IfNone, IfSome, sym, ap, subst}
use Rattle.std.proofs.lemmas.List.{append_assoc}
use Rattle.std.specs.Io.KnownBytes.{Consumes}
use Rattle.wb_keep.specs.Disk.Device.{LeavesOnly}
use Rattle.wb_keep.specs.declared.disk.device.Device as Device
use Rattle.wb_keeping.specs.Granting.Granting.{Begins}
use Rattle.wb_keeping.specs.Opening.{HasFailedSince, IsNoBeginning, IsOldOrBegun, IsOpening, OpensWith}
use Rattle.wb_keeping.specs.declared.beginning.Opening.{Opening}
use Rattle.wb_keeping.specs.declared.opening.BeginErr.{BeginErr}
use Rattle.wb_keeping.specs.declared.opening.BeginErr.TheVariants as errs
use Rattle.wb_history.specs.Past.{Past}
use Rattle.wb_machine.specs.Histories.Text.{IsNoHistory}
use Rattle.wb_sessions.specs.Beginning.{IsNotBegun, TellsOf}
use Rattle.wb_sessions.specs.Checking.{IsNoRecord}
use Rattle.wb_sessions.specs.Keeping.{DoesNothing, Streams}
use Rattle.wb_sessions.specs.Resuming.{IsRecord}
use Rattle.wb_sessions.specs.declared.files.FileFault.{FileFault}
use Rattle.wb_sessions.specs.declared.files.FileFault.TheVariants as faults
use Rattle.wb_sessions.specs.declared.keeping.KeptRun.{KeptRun}
use Rattle.wb_sessions.proofs.Opening.{behind}

-- ---- the text that comes first

-- what opens with a text has it
pub opened_with : (text bytes : List ℕ) (found : Option Opening) → text ≡ bytes → IfSome found (OpensWith text)
    → IfSome found (λ o. IsOpening o × IsRecord bytes o.history)
opened_with text bytes None same h = tt
opened_with text bytes (Some o) same h =
    (h.is_opening, record { legal = h.is_opening.begins.history.0; same = sym same ∙ h.same; counted = h.is_opening.begins.counted })

-- no text of a history opens with none
pub not_opened : (text bytes : List ℕ) (found : Option Opening) → text ≡ bytes → IfNone found (IsNoHistory text) → IfNone found (IsNoRecord bytes)
not_opened text bytes None same h = inr (subst IsNoHistory same h)
not_opened text bytes (Some o) same h = tt

-- bytes were read, and what stands behind a place was put back
pub put_front : (old mid : Option (List ℕ)) (bytes front back : List ℕ) → Consumes old mid bytes → bytes ≡ front ++ back → Consumes old (behind back mid) front
put_front None mid bytes front back h e = tt
put_front (Some xs) None bytes front back h e = absurd h
put_front (Some xs) (Some m) bytes front back h e = h ∙ ap (λ zs. zs ++ m) e ∙ append_assoc front back m

-- what was read up to a place, and then from there on
pub reads_behind : (old mid new : Option (List ℕ)) (front asked : List ℕ) → Consumes old mid front → Consumes mid new asked → Consumes old new (front ++ asked)
reads_behind None mid new front asked h k = tt
reads_behind (Some xs) None new front asked h k = absurd h
reads_behind (Some xs) (Some m) None front asked h k = absurd k
reads_behind (Some xs) (Some m) (Some n) front asked h k = h ∙ ap (λ zs. front ++ zs) k ∙ sym (append_assoc front asked n)

-- ---- a file that is not begun

module _ {D : Type 0} (device : Device.Ghosts D) where
  pub not_begun : (past : Past) (file : D) (held line : List ℕ) (why : BeginErr) (left : D) (run : KeptRun D) (s : Streams) → Begins line past
      → IsNoBeginning device file held line why left → TellsOf why run.status run.fault → run.file ≡ left → DoesNothing s
      → IsNotBegun device past file held run s
  not_begun past file held line errs.NotOurs left run s begins cause told is nothing =
      inr (inl (record { foreign = cause.0; untouched = is ∙ cause.1; nothing = nothing; is_status = told.0; is_fault = told.1 }))
  not_begun past file held line errs.HasLines left run s begins cause told is nothing =
      inl (record { ours = cause.0; has_lines = cause.1; untouched = is ∙ cause.2; nothing = nothing; is_status = told.0; is_fault = told.1 })
  not_begun past file held line errs.Memory left run s begins cause told is nothing =
      inr (inr (record {
        nothing = nothing;
        line = line;
        begins = begins;
        any_moment = subst (λ d. LeavesOnly device.moment device.left_since file d (IsOldOrBegun held line)) (sym is) cause;
        cause = inl told;
      }))
  not_begun past file held line errs.Failed left run s begins cause told is nothing =
      inr (inr (record {
        nothing = nothing;
        line = line;
        begins = begins;
        any_moment = subst (λ d. LeavesOnly device.moment device.left_since file d (IsOldOrBegun held line)) (sym is) cause.0;
        cause = inr (told.0, told.1, subst (λ d. HasFailedSince device file d held line) (sym is) cause.1);
      }))

-- then not all was answered
pub not_begun_finishes : (why : BeginErr) (status : ℕ) (fault : Option FileFault) → TellsOf why status fault → status ≡ 0 → ⊥
not_begun_finishes errs.NotOurs status fault told e = cc (told.0, e)
not_begun_finishes errs.HasLines status fault told e = cc (told.0, e)
not_begun_finishes errs.Memory status fault told e = cc (told.0, e)
not_begun_finishes errs.Failed status fault told e = cc (told.0, e)

-- and status 3 comes with what is told of the file
pub not_begun_fails : (why : BeginErr) (status : ℕ) (fault : Option FileFault) → TellsOf why status fault → status ≡ 3
    → (cause : FileFault) × (fault ≡ Some cause)
not_begun_fails errs.NotOurs status fault told e = (faults.NotOurs, told.1)
not_begun_fails errs.HasLines status fault told e = (faults.HasLines, told.1)
not_begun_fails errs.Memory status fault told e = absurd (cc (told.0, e))
not_begun_fails errs.Failed status fault told e = (faults.Failed, told.1)
