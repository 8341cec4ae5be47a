-- What a call at a desk is answered, and what an early settlement of a seat shows.
use Rattle.std.specs.Prelude.{◌≡◌, ℕ, List}
use Rattle.wb_requests.specs.declared.requests.request.Request.{Request}
use Rattle.wb_machine.specs.declared.replies.reply.Reply.{Reply}
use Rattle.wb_desk.specs.declared.entry.Entry.{Entry}
use Rattle.wb_desk.specs.declared.settling.Difference.{Difference}
use Rattle.wb_desk.specs.Courses.{Course, IsCourse, Marked, Start, Tells, list_of}
use Rattle.wb_desk.specs.Serving.{AnswersCourse, IsStrange}
use Rattle.wb_desk.specs.Settling.{FirstDifference}
use Rattle.wb_desk.specs.Early.{EndsWith}

-- Some course of so many seats from the opening gave the reply: as many entries of the seat are kept as there are in this list, or else
-- the reply is that the pass is strange.
abbrev pub AnswersAmong : ℕ → Start → ℕ → List Entry → Request → Reply → Type 0
AnswersAmong n opening seat own asked r =
    (c : Course) × (c.seats ≡ n) × IsCourse opening c × IsStrange c seat own r × ((d : Course) × AnswersCourse c seat asked r d)

-- In some course of so many seats from the opening the seat's entries end with those of this list, each once, in its order, with the
-- replies that it got; those before them were settled earlier.
abbrev pub StandsInSome : ℕ → Start → ℕ → List Entry → Type 0
StandsInSome n opening seat own = (c : Course) × (c.seats ≡ n) × ((all : List Marked) × Tells opening.history all c × EndsWith all seat own)

-- In some course of so many seats from the opening the list that is kept of the seat is not this one, and differs first at this place.
abbrev pub DiffersInSome : ℕ → Start → ℕ → List Entry → Difference → Type 0
DiffersInSome n opening seat own why = (c : Course) × (c.seats ≡ n) × IsCourse opening c × FirstDifference (list_of c.entries seat) own why.place
