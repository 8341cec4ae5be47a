-- How a desk that stays ends.
use Rattle.std.proofs.Common.{◌≡◌, ◌∙◌, ℕ, List, subst}
use Rattle.wb_lending.specs.Lending.{AllLent}
use Rattle.wb_lending.specs.declared.guests.Guests as Guests
use Rattle.wb_lines.specs.declared.sink.Sink as Sink
use Rattle.wb_lines.specs.declared.source.Source as Source
use Rattle.wb_desk.specs.Courses.{Course, IsCourse, Marked, Start, Tells}
use Rattle.wb_desk.specs.Early.{EndsWithAll}
use Rattle.wb_desk.specs.Serving.{Held, new_passes}
use Rattle.wb_desk.specs.Settling.{IsSettled, IsCause}
use Rattle.wb_desk.specs.declared.settling.Cause.{Cause}
use Rattle.wb_program.specs.Stays.{hosts_at, Disagrees, Ended, IsStay}
use Rattle.wb_visits.specs.declared.visit.Visit.{Visit}

module _ {I O G X E : Type 0} (source : Source.Ghosts I) (sink : Sink.Ghosts O) (guests : Guests.Ghosts G (Visit I O) X E) where
  abbrev ended : (opening : Start) (n seats : ℕ) (c : Course) (hs ks : List Held) → n ≡ seats → hs ≡ new_passes seats
      → AllLent guests (hosts_at source sink guests n opening) hs ks → IsCourse opening c → c.seats ≡ seats
      → Ended source sink guests opening seats c
  ended opening n seats c hs ks same new back course many = record {
    passes = ks;
    all_lent = subst (λ l. AllLent guests (hosts_at source sink guests seats opening) l ks) new
        (subst (λ m. AllLent guests (hosts_at source sink guests m opening) hs ks) same back);
    is_course = course;
    so_many = many;
  }

  -- it settled
  pub is_stay : (opening : Start) (n seats : ℕ) (c : Course) (hs ks : List Held) → n ≡ seats → hs ≡ new_passes seats
      → AllLent guests (hosts_at source sink guests n opening) hs ks → IsCourse opening c → c.seats ≡ n → IsSettled c.seats c.entries ks
      → (all : List Marked) × Tells opening.history all c × EndsWithAll all c.seats ks → IsStay source sink guests opening seats c
  is_stay opening n seats c hs ks same new back course many settled stands = record {
    ended = ended opening n seats c hs ks same new back course (many ∙ same);
    settled = subst (λ k. IsSettled k c.entries ks) (many ∙ same) settled;
    stands = (stands.0, stands.1, subst (λ k. EndsWithAll stands.0 k ks) (many ∙ same) stands.2);
  }

  -- it did not
  pub disagrees : (opening : Start) (n seats : ℕ) (c : Course) (hs ks : List Held) (cause : Cause) → n ≡ seats → hs ≡ new_passes seats
      → AllLent guests (hosts_at source sink guests n opening) hs ks → IsCourse opening c → c.seats ≡ n → IsCause c.seats c.entries ks cause
      → Disagrees source sink guests opening seats
  disagrees opening n seats c hs ks cause same new back course many is = record {
    course = c;
    ended = ended opening n seats c hs ks same new back course (many ∙ same);
    cause = cause;
    is_cause = subst (λ k. IsCause k c.entries ks cause) (many ∙ same) is;
  }
