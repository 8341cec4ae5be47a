-- What a connection at a desk is written, and what the program prints once a desk is settled.
use Rattle.std.specs.Prelude.{◌≡◌, ◌⊎◌, ℕ, Bool, true, false, List, [], ◌++◌, codes, decimal, Result, Ok, Err}
use Rattle.selective_undo.specs.History.{replay}
use Rattle.wb_history.specs.Past.{Numbered, meant}
use Rattle.wb_edit.specs.declared.refusal.Refusal.{Refusal}
use Rattle.wb_edit.specs.declared.refusal.Refusal.TheVariants.{NoMemory}
use Rattle.wb_requests.specs.Requests.{request}
use Rattle.wb_requests.specs.declared.requests.request.Request.{Request}
use Rattle.wb_machine.specs.Replies.{reply_of}
use Rattle.wb_machine.specs.declared.replies.reply.Reply.{Reply}
use Rattle.wb_machine.specs.declared.replies.reply.Reply.TheVariants.{Refused}
use Rattle.wb_desk.specs.Courses.{Course, Start, count_of}
use Rattle.wb_desk.specs.Seats.{IsNumberOfSeats}
use Rattle.wb_desk.specs.Serving.{Held, own_after, share_after, AnswersSome}
use Rattle.wb_text.specs.Lines.{book_text}
use Rattle.wb_machine.specs.Encoding.Text.{history_text}
use Rattle.wb_statuses.specs.Statuses.{IsFault, IsPrinted}

-- a pass after a reply to its request
abbrev pub held_after : Held → Request → Reply → Held
held_after h asked r = record { seat = h.seat; own = own_after h.seat h.own asked r; share = share_after h.share r }

-- What was read is answered by the desk, or by why it is no request.
abbrev pub RepliesIfRead : Start → Held → Result Request Refusal → Reply → Held → Type 0
RepliesIfRead opening h (Ok asked) r k = AnswersSome opening h.seat h.own asked r × (k ≡ held_after h asked r)
RepliesIfRead opening h (Err why) r k = (r ≡ Refused why) × (k ≡ h)

-- There was no memory to read the request, and nothing was asked.
abbrev pub NothingAsked : Held → Reply → Held → Type 0
NothingAsked h r k = (r ≡ Refused NoMemory) × (k ≡ h)

-- what a line may be read as: its request, or why it is none, or that there was no memory to read it
abbrev pub IsReadAs : List ℕ → Result Request Refusal → Type 0
IsReadAs line asked = (request line ≡ asked) ⊎ (asked ≡ Err NoMemory)

-- A line is answered with the text of a reply of the desk to the pass, which is another one then.
pub record AnswersSeat (opening : Start) (h : Held) (line text : List ℕ) (k : Held) : Type 0 where
  pub reply : Reply
  pub is_reply : RepliesIfRead opening h (request line) reply k ⊎ NothingAsked h reply k
  pub is_text : text ≡ reply_of reply

-- the text of the workbook, or of the whole history
abbrev pub shown : Bool → List Numbered → List ℕ
shown false es = book_text (replay (meant es))
shown true es = history_text es

-- what is printed of a desk that is settled: a number of entries, and that text
abbrev pub settled_text : Bool → ℕ → List Numbered → List ℕ
settled_text whole n es = codes "settled " ++ (decimal n ++ (codes "\n" ++ shown whole es))

-- That was printed of a course, with the number of entries that are kept and status 0; or a front of it, at a fault.
abbrev pub PrintsSettled : Bool → Course → ℕ → List ℕ → Type 0
PrintsSettled whole c status text = IsPrinted (settled_text whole (count_of c.entries) c.history.entries) status text

-- No desk was opened or settled, and nothing was printed: there can be no desk of so many seats, or there was a fault.
abbrev pub NeverSettles : ℕ → ℕ → List ℕ → Type 0
NeverSettles seats status text = (text ≡ []) × (((status ≡ 2) × ¬ IsNumberOfSeats seats) ⊎ IsFault status)
