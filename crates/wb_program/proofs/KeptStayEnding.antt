-- How a desk that stays ends whose changes are kept.
use Rattle.std.proofs.Common.{◌≡◌, ◌⊎◌, ◌∙◌, inl, inr, refl, ℕ, Bool, true, List, Some, sym, ap, subst}
use Rattle.wb_keep.specs.declared.disk.device.Device as Device
use Rattle.wb_kept_seats.specs.KeptCourses.{KeptCourse}
use Rattle.wb_kept_seats.specs.Settling.{IsSettleCause}
use Rattle.wb_kept_seats.specs.declared.settling.SettleErr.{SettleErr}
use Rattle.wb_kept_seats.specs.declared.settling.SettleErr.TheVariants.{Passes}
use Rattle.wb_lending.specs.Lending.{AllLent}
use Rattle.wb_lending.specs.declared.guests.Guests as Guests
use Rattle.wb_lines.specs.declared.sink.Sink as Sink
use Rattle.wb_lines.specs.declared.source.Source as Source
use Rattle.wb_desk.specs.Courses.{IsCourse, Start}
use Rattle.wb_desk.specs.Serving.{Held, new_passes}
use Rattle.wb_desk.specs.Settling.{IsCause}
use Rattle.wb_desk.specs.declared.settling.Cause.{Cause}
use Rattle.wb_sessions.specs.declared.files.FileFault.TheVariants.{Failed}
use Rattle.wb_sessions.specs.declared.keeping.KeptRun.{KeptRun}
use Rattle.wb_program.specs.KeptDays.{BreaksOff}
use Rattle.wb_program.specs.KeptSeats.{FailsOnce}
use Rattle.wb_program.specs.KeptStays.{EndsKeptStay, FailsKeptStay, SettlesKept}
use Rattle.wb_program.specs.Stays.{hosts_at}
use Rattle.wb_program.proofs.StayEnding.{disagrees}
use Rattle.wb_visits.specs.declared.visit.Visit.{Visit}

of_passes : (k : KeptCourse) (ps : List Held) (cause : SettleErr) (why : Cause) → cause ≡ Passes why → IsSettleCause k ps cause
    → IsCause k.course.seats k.course.entries ps why
of_passes k ps cause why e is = subst (λ c. IsSettleCause k ps c) e is

module _ {I O G X E D : Type 0} (source : Source.Ghosts I) (sink : Sink.Ghosts O) (guests : Guests.Ghosts G (Visit I O) X E) (device : Device.Ghosts D) where
  -- the passes came back, and the desk did not settle
  pub not_settled : (opening : Start) (n : ℕ) (k : KeptCourse) (ps : List Held) (cause : SettleErr) (status : ℕ) (run : KeptRun D) (write_failed : Bool)
      → AllLent guests (hosts_at source sink guests n opening) (new_passes n) ps → IsCourse opening k.course → k.course.seats ≡ n
      → IsSettleCause k ps cause → (status ≡ 3 → (why : Cause) × (cause ≡ Passes why))
      → (status ≡ 3) ⊎ ((run.fault ≡ Some Failed) × FailsOnce device.faults) → FailsKeptStay source sink guests device opening n run write_failed
  not_settled opening n k ps cause status run write_failed back course many is passes (inl e) =
      let p = passes e in
      inl (inr (inr (disagrees source sink guests opening n n k.course (new_passes n) ps p.0 refl refl back course many (of_passes k ps cause p.0 p.1 is))))
  not_settled opening n k ps cause status run write_failed back course many is passes (inr h) = inr h

  -- no thread could be had
  pub not_lent : (opening : Start) (n : ℕ) (status : ℕ) (run : KeptRun D) (write_failed : Bool)
      → (status ≡ 3 → (from : G) × (guests.failed from ≡ true))
      → (status ≡ 3) ⊎ ((run.fault ≡ Some Failed) × FailsOnce device.faults) → FailsKeptStay source sink guests device opening n run write_failed
  not_lent opening n status run write_failed failed (inl e) = inl (inl (failed e))
  not_lent opening n status run write_failed failed (inr h) = inr h

  pub ends : (opening : Start) (begun n : ℕ) (file : D) (run : KeptRun D) (text : List ℕ)
      → SettlesKept source sink guests device opening begun n run text ⊎ BreaksOff device opening begun n run text
      → EndsKeptStay source sink guests device opening begun n file run text
  ends opening begun n file run text (inl h) = inl h
  ends opening begun n file run text (inr h) = inr (inl h)

  -- as many passes as the desk has seats
  pub all_new : (opening : Start) (n seats : ℕ) (hs ks : List Held) → n ≡ seats → hs ≡ new_passes seats
      → AllLent guests (hosts_at source sink guests n opening) hs ks → AllLent guests (hosts_at source sink guests n opening) (new_passes n) ks
  all_new opening n seats hs ks same new back = subst (λ l. AllLent guests (hosts_at source sink guests n opening) l ks) (new ∙ ap new_passes (sym same)) back

  -- a desk whose port was not told
  pub port_not_told : (opening : Start) (n : ℕ) (run : KeptRun D) (port_failed write_failed : Bool) → (port_failed ≡ true) ⊎ (write_failed ≡ true)
      → (port_failed ≡ true) ⊎ FailsKeptStay source sink guests device opening n run write_failed
  port_not_told opening n run port_failed write_failed (inl port) = inl port
  port_not_told opening n run port_failed write_failed (inr write) = inr (inl (inr (inl write)))
