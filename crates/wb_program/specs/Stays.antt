-- A desk that stays: each seat is lent to one connection after another, and in the end the desk is settled.
use Rattle.std.specs.Prelude.{◌≡◌, ◌⊎◌, ℕ, Bool, true, List, Option, is_none, ◌++◌, codes, take}
use Rattle.wb_lending.specs.Lending.{AllLent}
use Rattle.wb_lending.specs.declared.guests.Guests as Guests
use Rattle.wb_lending.specs.declared.guests.Hosts as Hosts
use Rattle.wb_lines.specs.declared.sink.Sink as Sink
use Rattle.wb_lines.specs.declared.source.Source as Source
use Rattle.wb_desk.specs.Courses.{Course, IsCourse, Marked, Start, Tells}
use Rattle.wb_desk.specs.Early.{EndsWithAll}
use Rattle.wb_desk.specs.Serving.{Held, new_passes}
use Rattle.wb_desk.specs.Settling.{IsSettled, IsCause}
use Rattle.wb_desk.specs.declared.settling.Cause.{Cause}
use Rattle.wb_desk.specs.declared.settling.Difference.{Difference}
use Rattle.wb_command.specs.declared.Place.{Place}
use Rattle.wb_command.specs.declared.Place.TheVariants.{Port, Socket}
use Rattle.wb_statuses.specs.Statuses.{IsFault}
use Rattle.wb_seats.specs.Days.{ServedOn}
use Rattle.wb_seats.specs.Hosting.{listening}
use Rattle.wb_seats.specs.Early.{IsSettledFrom, PrintsAll}
use Rattle.wb_seats.specs.Serving.{NeverSettles}
use Rattle.wb_seats.specs.Words.{AnswersStaying}
use Rattle.wb_visits.specs.declared.visit.Visit.{Visit}

-- the line that tells where a desk listens: the port that it has, or the path of the socket
abbrev pub listening_at : Place → ℕ → List ℕ
listening_at (Port asked) port = listening port
listening_at (Socket path) port = codes "listening on " ++ (path ++ codes "\n")

module _ {I O : Type 0} (source : Source.Ghosts I) (sink : Sink.Ghosts O) where
  -- At a desk of so many seats a pass was served on a connection, where a line that found 64 entries or more, or that the last reply
  -- was long, was answered after an early settlement, and one that is a word for the desk was answered as such. Once the connection ended, the seat was settled early too, if entries were left; this is the difference that was told then.
  pub record ServedEarly (seats : ℕ) (opening : Start) (h : Held) (i : I) (o : O) (told : Option Difference) (k : Held) : Type 0 where
    pub left : Held
    pub served : ServedOn source sink (AnswersStaying seats opening) h i o left
    pub settled : IsSettledFrom 1 seats opening left told k

module _ {I O G D E : Type 0} (source : Source.Ghosts I) (sink : Sink.Ghosts O) (guests : Guests.Ghosts G (Visit I O) D E) where
  -- Who serves at a desk of so many seats and this opening: a pass is served on a connection and settled, and its seat may be lent on where no
  -- difference was told.
  abbrev pub hosts_at : ℕ → Start → Hosts.Ghosts G Held (Visit I O) E
  hosts_at seats opening = record {
    served = λ h v k may_be_lent. (told : Option Difference) × (may_be_lent ≡ is_none told) × ServedEarly source sink seats opening h v.reader v.writer told k;
  }

  -- What is left once nobody comes any more: the passes, each lent to one connection after another, and the course.
  pub record Ended (opening : Start) (seats : ℕ) (c : Course) : Type 0 where
    pub passes : List Held
    pub all_lent : AllLent guests (hosts_at seats opening) (new_passes seats) passes
    pub is_course : IsCourse opening c
    pub so_many : c.seats ≡ seats

  -- A desk of so many seats that stayed: the entries that are kept of each seat are those of its pass, and in the course they come after those
  -- that were settled early.
  pub record IsStay (opening : Start) (seats : ℕ) (c : Course) : Type 0 where
    pub ended : Ended opening seats c
    pub settled : IsSettled seats c.entries ended.passes
    pub stands : (all : List Marked) × Tells opening.history all c × EndsWithAll all seats ended.passes

  -- The course was printed, or a front of that; or the desk never settled.
  abbrev pub EndsStay : Start → ℕ → ℕ → List ℕ → Type 0
  EndsStay opening seats status text = ((c : Course) × IsStay opening seats c × PrintsAll c status text) ⊎ NeverSettles seats status text

  -- the passes came back, and for this cause they don't agree with the journal
  pub record Disagrees (opening : Start) (seats : ℕ) : Type 0 where
    pub course : Course
    pub ended : Ended opening seats course
    pub cause : Cause
    pub is_cause : IsCause seats course.entries ended.passes cause

  -- Why it fails: a thread could not be had, or the latest write or flush failed, or the passes don't agree with the journal.
  abbrev pub FailsStay : Start → ℕ → (write_failed : Bool) → Type 0
  FailsStay opening seats write_failed = ((from : G) × (guests.failed from ≡ true)) ⊎ ((write_failed ≡ true) ⊎ Disagrees opening seats)

  -- It was told where the desk listens, and then it stayed; or a fault came before that, after a front of what is told.
  abbrev pub HostsStay : Start → Place → ℕ → ℕ → List ℕ → Type 0
  HostsStay opening place seats status text =
      ((port : ℕ) × (stay : List ℕ) × (text ≡ listening_at place port ++ stay) × EndsStay opening seats status stay)
      ⊎ (IsFault status × ((port count : ℕ) × (text ≡ take count (listening_at place port))))
