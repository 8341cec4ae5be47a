-- The course of a desk: what was asked and replied there, and the history that came of it. Of each seat a list of entries is kept. What was
-- settled early is let go, and stands in the course as before.
use Rattle.std.specs.Prelude.{◌≡◌, ℕ, ◌<◌, ◌-◌, ◌^◌, Bool, true, false, cond, ◌==◌, List, [], ◌∷◌, ◌++◌, length, min, slice_index_or, zero, suc, refl}
use Rattle.std.specs.List.{All, sum_by}
use Rattle.std.specs.Coded.{Coded, code_by, coded×, coded_list, coded_ℕ}
use Rattle.wb_history.specs.Past.{Past, past_code}
use Rattle.wb_machine.specs.Machine.{Step}
use Rattle.wb_desk.specs.contracts.entry.Entry as entry_row
use Rattle.wb_desk.specs.declared.entry.Entry.{Entry}
use Rattle.wb_desk.specs.Entries.{of_seat, is_entered}

-- so many seats, the list of each seat's entries that are kept, how many entries were settled early, and the history
pub record Course : Type 0 where
  pub seats : ℕ
  pub entries : List (List Entry)
  pub settled : ℕ
  pub history : Past

abbrev pub course_code : Coded Course
course_code =
    code_by (ℕ × (List (List Entry) × (ℕ × Past))) (coded× coded_ℕ (coded× (coded_list (coded_list entry_row.the_row.coded)) (coded× coded_ℕ past_code)))
    (λ c. (c.seats, (c.entries, (c.settled, c.history))))
    (λ p. record { seats = p.0; entries = p.1.0; settled = p.1.1.0; history = p.1.1.1 }) (λ c. refl)

-- the list of a seat, and how many entries there are in all lists
abbrev pub list_of : List (List Entry) → ℕ → List Entry
list_of lists k = slice_index_or lists k []

abbrev pub count_of : List (List Entry) → ℕ
count_of lists = sum_by (λ es. length es) lists

-- an entry, and whether it was settled early
pub record Marked : Type 0 where
  pub entry : Entry
  pub settled : Bool

-- all entries, those that were settled early, and those that are kept
abbrev pub all_of : List Marked → List Entry
all_of [] = []
all_of (m ∷ ms) = m.entry ∷ all_of ms

abbrev pub done_of : List Marked → List Entry
done_of [] = []
done_of (m ∷ ms) = cond m.settled (m.entry ∷ done_of ms) (done_of ms)

abbrev pub kept_of : List Marked → List Entry
kept_of [] = []
kept_of (m ∷ ms) = cond m.settled (kept_of ms) (m.entry ∷ kept_of ms)

-- these after one entry more, which is kept
abbrev pub with_entry : List Marked → Entry → List Marked
with_entry ms e = ms ++ record { entry = e; settled = false } ∷ []

-- these after the entries of a seat were settled
abbrev pub settled_seat : ℕ → List Marked → List Marked
settled_seat k [] = []
settled_seat k (m ∷ ms) = record { entry = m.entry; settled = cond (m.entry.seat == k) true m.settled } ∷ settled_seat k ms

-- Each entry's reply is the machine's at its place, from one history to another.
abbrev pub Runs : Past → List Entry → Past → Type 0
Runs p [] q = q ≡ p
Runs p (e ∷ es) q = (m : Past) × (is_entered e.reply ≡ true) × Step p e.request e.reply m × Runs m es q

-- These entries are all of a course: the history is the machine's after them, from the opening; each is of one of the seats; a seat's
-- are those that were settled early and then those that are kept, which are the list of the seat; and as many were settled as the course
-- says, or at least 2^64 - 1 where it says that.
pub record Tells (opening : Past) (all : List Marked) (c : Course) : Type 0 where
  pub run : Runs opening (all_of all) c.history
  pub seated : All (λ e. e.seat < c.seats) (all_of all)
  pub lists : length c.entries ≡ c.seats
  pub in_order : (k : ℕ) → of_seat k (all_of all) ≡ of_seat k (done_of all) ++ of_seat k (kept_of all)
  pub kept : (k : ℕ) → k < c.seats → list_of c.entries k ≡ of_seat k (kept_of all)
  pub settled : c.settled ≡ min (length (done_of all)) (2 ^ 64 - 1)

-- how a desk is opened: at a history, and whether seats may be settled before the desk is
pub record Start : Type 0 where
  pub history : Past
  pub early : Bool

-- There are entries from the opening that are all of the course. Nothing was settled early, but where seats may be.
pub record IsCourse (opening : Start) (c : Course) : Type 0 where
  pub all : List Marked
  pub tells : Tells opening.history all c
  pub none : opening.early ≡ false → c.settled ≡ 0

-- Nothing was settled early, and these entries, in order, are all of the course: the history is the machine's after them, from the opening;
-- each is of one of the seats; and the list of each seat is its entries.
pub record IsWhole (opening : Past) (es : List Entry) (c : Course) : Type 0 where
  pub run : Runs opening es c.history
  pub seated : All (λ e. e.seat < c.seats) es
  pub lists : (k : ℕ) → k < c.seats → list_of c.entries k ≡ of_seat k es
  pub count : count_of c.entries ≡ length es

-- an empty list for each of so many seats
abbrev pub empty_lists : ℕ → List (List Entry)
empty_lists zero = []
empty_lists (suc n) = empty_lists n ++ [] ∷ []
