-- Seats that are settled while their connections last.
use Rattle.std.specs.Prelude.{◌≡◌, ◌+◌, ◌-◌, ◌^◌, ◌<◌, ◌≤◌, ℕ, List, MatchOption, Option, None, true, false, length, min, nat_le, if◌then◌else◌}
use Rattle.wb_history.specs.Past.{Past}
use Rattle.wb_desk.specs.Answering.{DiffersInSome, StandsInSome}
use Rattle.wb_desk.specs.Courses.{Course, Start, count_of}
use Rattle.wb_desk.specs.Serving.{Held, new_pass}
use Rattle.wb_desk.specs.declared.entry.Entry.{Entry}
use Rattle.wb_desk.specs.declared.settling.Difference.{Difference}
use Rattle.wb_lines.specs.Turns.{cost_limit}
use Rattle.wb_statuses.specs.Statuses.{IsPrinted}
use Rattle.wb_seats.specs.Costs.{last_cost}
use Rattle.wb_seats.specs.Serving.{AnswersSeat, settled_text}

-- at a history, and seats may be settled early
abbrev pub early_from : Past → Start
early_from history = record { history = history; early = true }

-- The seat of a pass was settled early: in some course of so many seats from the opening its entries end with those of the pass, which are
-- let go. Or this difference is told: in some such course its entries first differ there from those of the pass, which is as it was.
abbrev pub IsSettledEarly : ℕ → Start → Held → Option Difference → Held → Type 0
IsSettledEarly seats opening h told k = MatchOption told (StandsInSome seats opening h.seat h.own × (k ≡ new_pass h.seat))
    (λ why. DiffersInSome seats opening h.seat h.own why × (k ≡ h))

-- The seat of a pass with so many entries, or more, was settled early. A pass with fewer stays as it is, and nothing is told.
abbrev pub IsSettledFrom : ℕ → ℕ → Start → Held → Option Difference → Held → Type 0
IsSettledFrom limit seats opening h told k =
    (length h.own < limit → (told ≡ None) × (k ≡ h)) × (limit ≤ length h.own → IsSettledEarly seats opening h told k)

-- Before its next line a seat is settled once its pass has so many entries: 64 of them, or any, where the last one's reply tells of 4,096
-- bytes or more, as a long text does.
abbrev pub kept_limit : List Entry → ℕ
kept_limit own = if nat_le 4096 (min cost_limit (last_cost own)) then 1 else 64

-- A line is answered, at a desk of so many seats, with the text of a reply of the desk to what the pass is before the line: as it was, or
-- settled early.
pub record AnswersEarly (seats : ℕ) (opening : Start) (h : Held) (line text : List ℕ) (k : Held) : Type 0 where
  pub told : Option Difference
  pub before : Held
  pub is_before : IsSettledFrom (kept_limit h.own) seats opening h told before
  pub answers : AnswersSeat opening before line text k

-- how many entries a course has, those too that were settled early, counted up to 2^64 - 1
abbrev pub entries_of : Course → ℕ
entries_of c = min (c.settled + count_of c.entries) (2 ^ 64 - 1)

-- That number and the workbook were printed of a course, with status 0; or a front of that, at a fault.
abbrev pub PrintsAll : Course → ℕ → List ℕ → Type 0
PrintsAll c status text = IsPrinted (settled_text false (entries_of c) c.history.entries) status text
