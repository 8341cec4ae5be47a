-- How a journal is opened, or why it isn't.
use Rattle.std.proofs.Common.{◌≡◌, ◌⊎◌, inl, inr, ℕ, Bool, true, false, List, refl, sym, ◌∙◌, true≢false, subst}
use Rattle.std.specs.Prelude.{◌≢◌, ◌<◌, Result, Ok, Err, IfErr, IfOk, IsErrAnd, IsTrue, IsFalse}
use Rattle.wb_keep.specs.Disk.Device.{LeavesOnly}
use Rattle.wb_keep.specs.declared.disk.device.Device as Device
use Rattle.wb_keep.specs.Lines.{is_ours, recovered}
use Rattle.wb_keep.specs.Repair.{StandsForTheSame}
use Rattle.wb_kept.specs.Answering.{Granted}
use Rattle.wb_kept.specs.Keeping.{IsPlace}
use Rattle.wb_kept.specs.Runs.{Leads}
use Rattle.wb_kept.specs.declared.kept.Kept.{Kept}
use Rattle.wb_kept.specs.declared.kept.OpenKeptErr.{OpenKeptErr}
use Rattle.wb_kept.specs.declared.kept.OpenKeptErr.TheVariants as errs
use Rattle.wb_history.specs.Past.{Past}
use Rattle.wb_keeping.specs.Granting.Granting.{Grants, no_edit}
use Rattle.wb_sessions.specs.Keeping.{FailsToOpen, IsCause, IsKeptHistory, IsOpened, ReadsNothing, RefusesFile, RefusesLines, Streams, TurnsAway}
use Rattle.wb_sessions.specs.declared.keeping.KeptRun.{KeptRun}

-- what `make` says of a change is what `open` asks of it
pub granted_by : {E : Type 0} (p : Past) (line : List ℕ) (r : Result Bool E) (q : Past)
    → IfOk r (λ is. is ≡ true → Grants p line q) × IfOk r (λ is. is ≡ false → (next : Past) → Grants p line next → ⊥) → Granted Grants p line r q
granted_by p line (Ok true) q h = h.0 refl
granted_by p line (Ok false) q h = h.1 refl
granted_by p line (Err e) q h = tt

module _ {D : Type 0} (device : Device.Ghosts D) (file : D) (held : List ℕ) where
  by_cause : (ours : Bool) → is_ours held ≡ ours → (why : OpenKeptErr) (left : D)
      → ((s : Past) → Leads Grants no_edit (recovered held) s → IsTrue ours → why ≢ errs.Failed → why ≡ errs.Memory)
      → (IsFalse ours → why ≡ errs.NotOurs) → (IsTrue ours → why ≢ errs.NotOurs)
      → LeavesOnly device.moment device.left_since file left (StandsForTheSame held)
      → (why ≢ errs.Failed → why ≢ errs.Memory → left ≡ file) → (why ≡ errs.Failed → device.faults file < device.faults left)
      → IsPlace Grants no_edit (recovered held) why → IsCause device file held why left
  by_cause true is errs.NotOurs left refused foreign ours_not moments untouched failed place = absurd (ours_not refl refl)
  by_cause false is errs.NotOurs left refused foreign ours_not moments untouched failed place = (is, untouched (λ e. cc) (λ e. cc))
  by_cause true is (errs.NotGranted at) left refused foreign ours_not moments untouched failed place =
      (is, (λ s led. let no : errs.NotGranted at ≡ errs.Memory = refused s led refl (λ e. cc) in cc), place, untouched (λ e. cc) (λ e. cc))
  by_cause false is (errs.NotGranted at) left refused foreign ours_not moments untouched failed place =
      let no : errs.NotGranted at ≡ errs.NotOurs = foreign refl in absurd (cc)
  by_cause ours is errs.Memory left refused foreign ours_not moments untouched failed place = moments
  by_cause ours is errs.Failed left refused foreign ours_not moments untouched failed place = (moments, failed refl)

  is_ours_of : (ours : Bool) → is_ours held ≡ ours → (IsFalse ours → ⊥) → IsTrue (is_ours held)
  is_ours_of true is not_foreign = is
  is_ours_of false is not_foreign = absurd (not_foreign refl)

  -- what `open` says of a file that it opens
  pub opened_by : (r : Result (Kept Past D) (OpenKeptErr × D)) → IfOk r (λ kept. IsKeptHistory device kept)
      → IfOk r (λ kept. recovered (device.seen kept.log.device) ≡ recovered held)
      → IfOk r (λ kept. LeavesOnly device.moment device.left_since file kept.log.device (StandsForTheSame held))
      → (IsFalse (is_ours held) → IsErrAnd r (λ e. e.0 ≡ errs.NotOurs)) → IfOk r (λ kept. IsOpened device file held kept)
  opened_by (Ok kept) is_kept same moments foreign =
      record { ours = is_ours_of (is_ours held) refl foreign; is_kept = is_kept; same = same; any_moment = moments }
  opened_by (Err e) is_kept same moments foreign = tt

  -- what `open` says of an error
  pub caused : (r : Result (Kept Past D) (OpenKeptErr × D))
      → ((s : Past) → Leads Grants no_edit (recovered held) s → IsTrue (is_ours held) → IfErr r (λ e. e.0 ≢ errs.Failed → e.0 ≡ errs.Memory))
      → (IsFalse (is_ours held) → IsErrAnd r (λ e. e.0 ≡ errs.NotOurs)) → (IsTrue (is_ours held) → IfErr r (λ e. e.0 ≢ errs.NotOurs))
      → IfErr r (λ e. LeavesOnly device.moment device.left_since file e.1 (StandsForTheSame held))
      → IfErr r (λ e. e.0 ≢ errs.Failed → e.0 ≢ errs.Memory → e.1 ≡ file) → IfErr r (λ e. e.0 ≡ errs.Failed → device.faults file < device.faults e.1)
      → IfErr r (λ e. IsPlace Grants no_edit (recovered held) e.0) → IfErr r (λ e. IsCause device file held e.0 e.1)
  caused (Ok kept) refused foreign ours moments untouched failed place = tt
  caused (Err e) refused foreign ours moments untouched failed place =
      by_cause (is_ours held) refl e.0 e.1 refused foreign ours moments untouched failed place

  -- what comes of a file that is not opened
  pub turned : (why : OpenKeptErr) (left : D) (run : KeptRun D) (s : Streams) → IsCause device file held why left
      → TurnsAway why run.status run.fault s.sent s.told s.flushed s.write_failed → run.file ≡ left → ReadsNothing s
      → RefusesLines device file held run s ⊎ (RefusesFile device file held run s ⊎ FailsToOpen device file held run s)
  turned errs.NotOurs left run s cause told is nothing =
      inr (inl (record { foreign = cause.0; untouched = is ∙ cause.1; nothing = (nothing, told.0); is_status = told.1; is_fault = told.2 }))
  turned (errs.NotGranted place) left run s cause told is nothing = inl (record {
    ours = cause.0;
    not_granted = cause.1;
    untouched = is ∙ cause.3;
    nothing_read = nothing;
    text = told.0.0;
    written = told.0.1;
    says = told.0.2;
    flushed = told.1;
    failed = told.2;
    place = place;
    stops = cause.2;
    is_fault = told.3;
  })
  turned errs.Memory left run s cause told is nothing =
      inr (inr (record {
        nothing = (nothing, told.0);
        any_moment = subst (λ d. LeavesOnly device.moment device.left_since file d (StandsForTheSame held)) (sym is) cause;
        cause = inl (told.1, told.2);
      }))
  turned errs.Failed left run s cause told is nothing =
      inr (inr (record {
        nothing = (nothing, told.0);
        any_moment = subst (λ d. LeavesOnly device.moment device.left_since file d (StandsForTheSame held)) (sym is) cause.0;
        cause = inr (told.1, told.2, subst (λ d. device.faults file < device.faults d) (sym is) cause.1);
      }))
