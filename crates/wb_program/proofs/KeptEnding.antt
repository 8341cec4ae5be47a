-- How a day of a desk ends whose changes are kept.
use Rattle.std.proofs.Common.{◌≡◌, ◌⊎◌, ◌∙◌, inl, inr, refl, ℕ, Bool, true, List, [], None, Some, sym, ap, subst}
use Rattle.wb_keep.specs.declared.disk.device.Device as Device
use Rattle.wb_kept.specs.declared.kept.Kept.{Kept}
use Rattle.wb_kept_seats.specs.KeptCourses.{KeptCourse}
use Rattle.wb_kept_seats.specs.Settling.{IsSettleCause}
use Rattle.wb_kept_seats.specs.declared.settling.SettleErr.{SettleErr}
use Rattle.wb_kept_seats.specs.declared.settling.SettleErr.TheVariants.{Passes}
use Rattle.wb_lines.specs.declared.sink.Sink as Sink
use Rattle.wb_lines.specs.declared.source.Source as Source
use Rattle.wb_history.specs.Past.{Past}
use Rattle.wb_desk.specs.Courses.{IsCourse, Start}
use Rattle.wb_desk.specs.Serving.{Held, new_passes}
use Rattle.wb_desk.specs.Settling.{IsCause}
use Rattle.wb_desk.specs.declared.settling.Cause.{Cause}
use Rattle.wb_desk.specs.Seats.{IsNumberOfSeats}
use Rattle.wb_seats.specs.Days.{AllBack}
use Rattle.wb_program.specs.KeptDays.{BreaksOff, EndsKeptDay, FailsKeptDay, HasNoDesk, SettlesKept}
use Rattle.wb_program.specs.KeptSeats.{FailsOnce}
use Rattle.wb_connections.specs.declared.accepting.Accepts as Accepts
use Rattle.wb_sessions.specs.declared.files.FileFault.TheVariants.{Failed}
use Rattle.wb_sessions.specs.declared.keeping.KeptRun.{KeptRun}
use Rattle.wb_seats.proofs.Ending.{disagrees}

of_passes : (k : KeptCourse) (ps : List Held) (cause : SettleErr) (why : Cause) → cause ≡ Passes why → IsSettleCause k ps cause
    → IsCause k.course.seats k.course.entries ps why
of_passes k ps cause why e is = subst (λ c. IsSettleCause k ps c) e is

module _ {D : Type 0} (device : Device.Ghosts D) where
  -- there is no desk of so many seats
  pub bad_seats : (n seats : ℕ) (kept back : Kept Past D) (run : KeptRun D) → n ≡ seats → back ≡ kept
      → run ≡ record { status = 2; fault = None; file = back.log.device } → (IsNumberOfSeats seats → ⊥) → HasNoDesk device n kept.log.device run []
  bad_seats n seats kept back run same b e none = record {
    untouched = ap (λ r. r.file) e ∙ ap (λ k. k.log.device) b;
    never = (refl, inl (ap (λ r. r.status) e, subst (λ m. IsNumberOfSeats m → ⊥) (sym same) none));
    is_fault = ap (λ r. r.fault) e;
  }

  -- there was no memory for one
  pub no_memory : (n : ℕ) (kept back : Kept Past D) (run : KeptRun D) → back ≡ kept
      → run ≡ record { status = 4; fault = None; file = back.log.device } → HasNoDesk device n kept.log.device run []
  no_memory n kept back run b e = record {
    untouched = ap (λ r. r.file) e ∙ ap (λ k. k.log.device) b;
    never = (refl, inr (inr (ap (λ r. r.status) e)));
    is_fault = ap (λ r. r.fault) e;
  }

module _ {I O N D : Type 0} (source : Source.Ghosts I) (sink : Sink.Ghosts O) (accepts : Accepts.Ghosts N I O) (device : Device.Ghosts D) where
  -- the passes came back, and the desk did not settle
  pub not_settled : (opening : Start) (n : ℕ) (k : KeptCourse) (ps : List Held) (cause : SettleErr) (status : ℕ) (run : KeptRun D) (write_failed : Bool)
      → (from : N) × AllBack source sink accepts opening from (new_passes n) ps → IsCourse opening k.course → k.course.seats ≡ n
      → IsSettleCause k ps cause → (status ≡ 3 → (why : Cause) × (cause ≡ Passes why))
      → (status ≡ 3) ⊎ ((run.fault ≡ Some Failed) × FailsOnce device.faults) → FailsKeptDay source sink accepts device opening n run write_failed
  not_settled opening n k ps cause status run write_failed back course many is passes (inl e) =
      let p = passes e in
      inl (inr (inr (disagrees source sink accepts opening n n k.course (new_passes n) ps p.0 refl refl back course many (of_passes k ps cause p.0 p.1 is))))
  not_settled opening n k ps cause status run write_failed back course many is passes (inr h) = inr h

  -- no connection or thread could be had
  pub not_served : (opening : Start) (n : ℕ) (status : ℕ) (run : KeptRun D) (write_failed : Bool)
      → (status ≡ 3 → (from : N) × (accepts.failed from ≡ true))
      → (status ≡ 3) ⊎ ((run.fault ≡ Some Failed) × FailsOnce device.faults) → FailsKeptDay source sink accepts device opening n run write_failed
  not_served opening n status run write_failed failed (inl e) = inl (inl (failed e))
  not_served opening n status run write_failed failed (inr h) = inr h

  pub ends : (opening : Start) (begun n : ℕ) (file : D) (run : KeptRun D) (text : List ℕ)
      → SettlesKept source sink accepts device opening begun n run text ⊎ BreaksOff device opening begun n run text
      → EndsKeptDay source sink accepts device opening begun n file run text
  ends opening begun n file run text (inl h) = inl h
  ends opening begun n file run text (inr h) = inr (inl h)

  -- as many passes as the desk has seats
  pub all_new : (opening : Start) (n seats : ℕ) (hs ks : List Held) → n ≡ seats → hs ≡ new_passes seats
      → (from : N) × AllBack source sink accepts opening from hs ks → (from : N) × AllBack source sink accepts opening from (new_passes n) ks
  all_new opening n seats hs ks same new back = (back.0, subst (λ l. AllBack source sink accepts opening back.0 l ks) (new ∙ ap new_passes (sym same)) back.1)

  -- a desk whose port was not told
  pub port_not_told : (opening : Start) (n : ℕ) (run : KeptRun D) (port_failed write_failed : Bool) → (port_failed ≡ true) ⊎ (write_failed ≡ true)
      → (port_failed ≡ true) ⊎ FailsKeptDay source sink accepts device opening n run write_failed
  port_not_told opening n run port_failed write_failed (inl port) = inl port
  port_not_told opening n run port_failed write_failed (inr write) = inr (inl (inr (inl write)))
