-- When a seat is settled early: the list that is kept of it is the list of its pass, and both are let go.
use Rattle.std.specs.Prelude.{◌≡◌, ℕ, ◌+◌, ◌-◌, ◌^◌, ◌<◌, List, [], ◌∷◌, ◌++◌, length, min, slice_set, Result, Ok, Err}
use Rattle.wb_desk.specs.declared.entry.Entry.{Entry}
use Rattle.wb_desk.specs.declared.settling.Difference.{Difference}
use Rattle.wb_desk.specs.Entries.{of_seat}
use Rattle.wb_desk.specs.Courses.{Course, Marked, all_of, done_of, list_of, settled_seat}
use Rattle.wb_desk.specs.Serving.{Held, new_pass}
use Rattle.wb_desk.specs.Settling.{FirstDifference, passes_of}

-- The list of the seat was this one, of so many entries, and is let go; as many more were settled early then, counted up to 2^64 - 1.
pub record LetsGo (c : Course) (seat : ℕ) (own : List Entry) (n : ℕ) (d : Course) : Type 0 where
  pub agreed : list_of c.entries seat ≡ own
  pub count : n ≡ length own
  pub entries : d.entries ≡ slice_set c.entries seat []
  pub settled : d.settled ≡ min (c.settled + n) (2 ^ 64 - 1)
  pub history : d.history ≡ c.history
  pub seats : d.seats ≡ c.seats

-- So many entries of a seat are settled: those that were kept of it were those of the pass, and both are let go.
abbrev pub SettlesSeat : Course → Held → ℕ → Course → Held → Type 0
SettlesSeat c p n d q = LetsGo c p.seat p.own n d × (q ≡ new_pass p.seat)

-- They differ, first at this place, and nothing is changed.
abbrev pub DiffersSeat : Course → Held → Difference → Course → Held → Type 0
DiffersSeat c p why d q = FirstDifference (list_of c.entries p.seat) p.own why.place × (d ≡ c) × (q ≡ p)

-- all entries of a course after an early settlement of a seat
abbrev pub course_settled : List Marked → ℕ → Result ℕ Difference → List Marked
course_settled all seat (Ok n) = settled_seat seat all
course_settled all seat (Err why) = all

-- Of all entries of a course the seat's are those that were settled early, and then the ones of this list.
abbrev pub EndsWith : List Marked → ℕ → List Entry → Type 0
EndsWith all seat own = of_seat seat (all_of all) ≡ of_seat seat (done_of all) ++ own

-- Each seat has one pass, and its entries are those that were settled early, and then the ones of the pass.
abbrev pub EndsWithAll : List Marked → ℕ → List Held → Type 0
EndsWithAll all n ps = (k : ℕ) → k < n → (p : Held) × (passes_of k ps ≡ p ∷ []) × EndsWith all k p.own
