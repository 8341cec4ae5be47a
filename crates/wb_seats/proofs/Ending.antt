-- What is left of a day when all connections have ended.
use Rattle.std.proofs.Common.{◌≡◌, ◌∙◌, ℕ, List, subst}
use Rattle.wb_lines.specs.declared.sink.Sink as Sink
use Rattle.wb_lines.specs.declared.source.Source as Source
use Rattle.wb_desk.specs.Courses.{Course, IsCourse, Start}
use Rattle.wb_desk.specs.Serving.{Held, new_passes}
use Rattle.wb_desk.specs.Settling.{IsSettled, IsCause}
use Rattle.wb_desk.specs.declared.settling.Cause.{Cause}
use Rattle.wb_seats.specs.Days.{AllBack, Disagrees, Ended, IsDay}
use Rattle.wb_connections.specs.declared.accepting.Accepts as Accepts

module _ {I O N : Type 0} (source : Source.Ghosts I) (sink : Sink.Ghosts O) (accepts : Accepts.Ghosts N I O) where
  abbrev ended : (opening : Start) (seats : ℕ) (c : Course) (hs ks : List Held) → hs ≡ new_passes seats
      → (from : N) × AllBack source sink accepts opening from hs ks → IsCourse opening c → c.seats ≡ seats → Ended source sink accepts opening seats c
  ended opening seats c hs ks new back course many = record {
    from = back.0;
    passes = ks;
    all_back = subst (λ l. AllBack source sink accepts opening back.0 l ks) new back.1;
    is_course = course;
    so_many = many;
  }

  -- it settled
  pub is_day : (opening : Start) (n seats : ℕ) (c : Course) (hs ks : List Held) → n ≡ seats → hs ≡ new_passes seats
      → (from : N) × AllBack source sink accepts opening from hs ks → IsCourse opening c → c.seats ≡ n → IsSettled c.seats c.entries ks
      → IsDay source sink accepts opening seats c
  is_day opening n seats c hs ks same new back course many settled = record {
    ended = ended opening seats c hs ks new back course (many ∙ same);
    settled = subst (λ k. IsSettled k c.entries ks) (many ∙ same) settled;
  }

  -- it did not
  pub disagrees : (opening : Start) (n seats : ℕ) (c : Course) (hs ks : List Held) (cause : Cause) → n ≡ seats → hs ≡ new_passes seats
      → (from : N) × AllBack source sink accepts opening from hs ks → IsCourse opening c → c.seats ≡ n → IsCause c.seats c.entries ks cause
      → Disagrees source sink accepts opening seats
  disagrees opening n seats c hs ks cause same new back course many is = record {
    course = c;
    ended = ended opening seats c hs ks new back course (many ∙ same);
    cause = cause;
    is_cause = subst (λ k. IsCause k c.entries ks cause) (many ∙ same) is;
  }
