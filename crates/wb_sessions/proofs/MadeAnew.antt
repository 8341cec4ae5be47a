-- What a journal is that was made anew, and what a crash leaves of it.
use Rattle.std.proofs.Common.{◌≡◌, ◌⊎◌, ◌∙◌, inl, inr, ℕ, Bool, true, false, List, ◌∷◌, [], Option, Some, Result, Ok, Err, refl, sym, ap, subst}
use Rattle.std.specs.Prelude.{◌≢◌, ◌<◌, Decides, IfErr, IsErrOf, OnOk}
use Rattle.wb_keep.specs.Disk.Device.{LeavesOnly}
use Rattle.wb_keep.specs.declared.disk.device.Device as Device
use Rattle.wb_keep.proofs.Disks.Moments.{joined, weaker}
use Rattle.wb_keeping.specs.Granting.Granting.{Grants, no_edit}
use Rattle.wb_keep.specs.Keep.{IsSettled}
use Rattle.wb_keep.specs.Lines.{recovered}
use Rattle.wb_keep.specs.Repair.{StandsForTheSame}
use Rattle.wb_keep.specs.declared.compacting.CompactErr.{CompactErr}
use Rattle.wb_keep.specs.declared.compacting.CompactErr.TheVariants as errs
use Rattle.wb_keep.specs.declared.keep.LineLog.{LineLog}
use Rattle.wb_keeping.specs.Anew.{HasEdits}
use Rattle.wb_kept.specs.Runs.{Leads}
use Rattle.wb_kept.specs.declared.kept.Kept.{Kept}
use Rattle.wb_history.specs.Past.{Numbered, Past}
use Rattle.wb_sessions.specs.Compacting.{CompactsAt, EndsAnew, IsAnew, StandsForEdits, TellsOfAnew}
use Rattle.wb_sessions.specs.Keeping.{DoesNothing, IsOpened, Streams, status_of_fault}
use Rattle.wb_sessions.specs.declared.files.FileFault.{FileFault}
use Rattle.wb_sessions.specs.declared.files.FileFault.TheVariants as faults
use Rattle.wb_sessions.specs.declared.files.OpensFiles as OpensFiles
use Rattle.wb_sessions.specs.declared.keeping.KeptRun.{KeptRun}

module _ {D : Type 0} (device : Device.Ghosts D) where
  -- ---- a crash at any moment

  module _ (file : D) (held : List ℕ) (opened : Kept Past D) (is_opened : IsOpened device file held opened) where
    still : (c : List ℕ) → StandsForTheSame held c → StandsForEdits held opened.state.entries c
    still c h = record {
      history = opened.state;
      same = refl;
      leads = subst (λ (ls : List (List ℕ)). Leads Grants no_edit ls opened.state) (is_opened.same ∙ sym h.lines) is_opened.is_kept.leads;
      head = h.head;
    }

    renewed : (c : List ℕ) → HasEdits opened.state.entries c → StandsForEdits held opened.state.entries c
    renewed c h = record { history = h.history; same = h.same; leads = h.leads; head = λ _. h.head }

    pub all_moments : (left : D) → LeavesOnly device.moment device.left_since opened.log.device left (HasEdits opened.state.entries)
        → LeavesOnly device.moment device.left_since file left (StandsForEdits held opened.state.entries)
    all_moments left anew =
        joined device.moment device.left_since file opened.log.device left (StandsForEdits held opened.state.entries) (HasEdits opened.state.entries)
        (weaker device.moment device.left_since file opened.log.device (StandsForTheSame held) (StandsForEdits held opened.state.entries) still is_opened.any_moment)
        anew renewed

  -- ---- how it ends

  pub ends : {T : Type 0} (es : List Numbered) (old new : LineLog D) (made : Result T CompactErr) (run : KeptRun D)
      → OnOk made (IsSettled device.seen device.may_leave new) → OnOk made (HasEdits es (device.seen new.device))
      → OnOk made ((line : List ℕ) × (recovered (device.seen new.device) ≡ line ∷ [])) → (IsErrOf made errs.Memory → new ≡ old)
      → IfErr made (λ e. e ≢ errs.Memory → device.faults old.device < device.faults new.device)
      → TellsOfAnew made run.status run.fault → run.file ≡ new.device → EndsAnew device old.device es run
  ends es old new (Ok x) run settled edits line memory failed told is =
      inl (
        told.0,
        told.1,
        subst (λ d. IsAnew device es d) (sym is) (record { has_edits = edits; line = line.0; one_line = line.1; durable = settled.durable }),
      )
  ends es old new (Err errs.Memory) run settled edits line memory failed told is =
      inr (inl (told.0, told.1, is ∙ ap (λ (l : LineLog D). l.device) (memory refl)))
  ends es old new (Err errs.NotMade) run settled edits line memory failed told is =
      inr (inr (told.0, told.1, subst (λ d. device.faults old.device < device.faults d) (sym is) (failed (λ e. cc))))
  ends es old new (Err errs.Failed) run settled edits line memory failed told is =
      inr (inr (told.0, told.1, subst (λ d. device.faults old.device < device.faults d) (sym is) (failed (λ e. cc))))

  -- status 3 comes with what is told of the file
  pub anew_fails : (opened : D) (es : List Numbered) (run : KeptRun D) → EndsAnew device opened es run → run.status ≡ 3
      → (cause : FileFault) × (run.fault ≡ Some cause)
  anew_fails opened es run (inl done) e = absurd (cc (done.0, e))
  anew_fails opened es run (inr (inl memory)) e = absurd (cc (memory.0, e))
  anew_fails opened es run (inr (inr failed)) e = (faults.Failed, failed.1)

  -- ---- why no file was opened

  module _ {J H : Type 0} (files : OpensFiles.Ghosts J D H) (path : List ℕ) (status : ℕ) (after : J) (s : Streams) (nothing : DoesNothing s) where
    -- by whether nothing was found at its path
    by_missing : (missing : Bool) → files.missing after ≡ missing → (fault : FileFault) → (missing ≡ true → fault ≡ faults.Missing)
        → files.told after ≡ Some fault → status ≡ status_of_fault fault → CompactsAt device files path status after s
    by_missing true is fault so told same =
        inr (record { missing = is; nothing = nothing; told = told ∙ ap Some (so refl); is_status = same ∙ ap status_of_fault (so refl) })
    by_missing false is fault so told same = inl (is, inr (record { nothing = nothing; fault = fault; told = told; is_status = same }))

    pub not_found : (fault : FileFault) → Decides (files.missing after) (fault ≡ faults.Missing) → files.told after ≡ Some fault
        → status ≡ status_of_fault fault → CompactsAt device files path status after s
    not_found fault decides told same = by_missing (files.missing after) refl fault decides.0 told same
