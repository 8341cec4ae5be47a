-- How a desk answers one request of a pass.
use Rattle.std.specs.Prelude.{◌≡◌, ℕ, ◌+◌, ◌<◌, true, false, MatchBool, List, [], ◌∷◌, ◌++◌, length, slice_set, zero, suc, refl}
use Rattle.std.specs.Coded.{Coded, code_by, coded×, coded_list, coded_ℕ}
use Rattle.wb_edit.specs.declared.refusal.Refusal.TheVariants.{StrangePass}
use Rattle.wb_requests.specs.declared.requests.request.Request.{Request}
use Rattle.wb_machine.specs.Machine.{Step}
use Rattle.wb_machine.specs.declared.replies.reply.Reply.{Reply}
use Rattle.wb_machine.specs.declared.replies.reply.Reply.TheVariants.{Refused}
use Rattle.wb_desk.specs.contracts.entry.Entry as entry_row
use Rattle.wb_desk.specs.declared.entry.Entry.{Entry}
use Rattle.wb_desk.specs.Entries.{is_entered}
use Rattle.wb_desk.specs.Courses.{Course, IsCourse, Marked, Start, list_of, with_entry}

-- What a pass shows: its seat, the list of its own entries that are not settled yet, and the amount of its share of the ledger.
pub record Held : Type 0 where
  pub seat : ℕ
  pub own : List Entry
  pub share : ℕ

abbrev pub held_code : Coded Held
held_code =
    code_by (ℕ × (List Entry × ℕ)) (coded× coded_ℕ (coded× (coded_list entry_row.the_row.coded) coded_ℕ))
    (λ h. (h.seat, (h.own, h.share))) (λ p. record { seat = p.0; own = p.1.0; share = p.1.1 }) (λ h. refl)

-- The seat is one of the desk's, and as many of its entries are kept as there are in this list.
abbrev pub Knows : Course → (seat : ℕ) → (own : List Entry) → Type 0
Knows c seat own = (seat < c.seats) × (length (list_of c.entries seat) ≡ length own)

-- A pass is answered that it is strange exactly where the desk doesn't know it.
abbrev pub IsStrange : Course → ℕ → List Entry → Reply → Type 0
IsStrange c seat own r = ((r ≡ Refused StrangePass) → ¬ Knows c seat own) × (¬ (r ≡ Refused StrangePass) → Knows c seat own)

abbrev pub entry : ℕ → Request → Reply → Entry
entry seat asked r = record { seat = seat; request = asked; reply = r }

-- the reply is the machine's, and is entered last in the list of the seat
pub record Enters (c : Course) (seat : ℕ) (asked : Request) (r : Reply) (d : Course) : Type 0 where
  pub reply : Step c.history asked r d.history
  pub entries : d.entries ≡ slice_set c.entries seat (list_of c.entries seat ++ entry seat asked r ∷ [])
  pub settled : d.settled ≡ c.settled
  pub seats : d.seats ≡ c.seats

-- a reply of the desk to a known pass: the machine's, or that there was no memory
abbrev pub AnswersCourse : Course → ℕ → Request → Reply → Course → Type 0
AnswersCourse c seat asked r d = MatchBool (is_entered r) (Enters c seat asked r d) (d ≡ c)

-- all entries of a course after a reply
abbrev pub course_after : List Marked → ℕ → Request → Reply → List Marked
course_after all seat asked r = elim (is_entered r) [ true ↦ with_entry all (entry seat asked r) | false ↦ all ]

-- the list of a pass after a reply
abbrev pub own_after : ℕ → List Entry → Request → Reply → List Entry
own_after seat own asked r = elim (is_entered r) [ true ↦ own ++ entry seat asked r ∷ [] | false ↦ own ]

-- the amount of its share
abbrev pub share_after : ℕ → Reply → ℕ
share_after n r = elim (is_entered r) [ true ↦ n + 1 | false ↦ n ]

-- Some course from the opening gave the reply: as many entries of the seat are kept as there are in this list, or else the reply is that
-- the pass is strange.
abbrev pub AnswersSome : Start → ℕ → List Entry → Request → Reply → Type 0
AnswersSome opening seat own asked r = (c : Course) × IsCourse opening c × IsStrange c seat own r × ((d : Course) × AnswersCourse c seat asked r d)

-- a pass with which nothing was asked yet, or whose entries were settled
abbrev pub new_pass : ℕ → Held
new_pass seat = record { seat = seat; own = []; share = 0 }

-- a new pass for each of so many seats
abbrev pub new_passes : ℕ → List Held
new_passes zero = []
new_passes (suc n) = new_passes n ++ new_pass n ∷ []
