-- What a request of a pass does to what is locked.
use Rattle.std.specs.Prelude.{◌≡◌, ℕ, true, List, Ok}
use Rattle.wb_requests.specs.declared.requests.request.Request.{Request}
use Rattle.wb_machine.specs.declared.replies.reply.Reply.{Reply}
use Rattle.wb_keeping.specs.Granting.Granting.{AddsLinesOf, changes_made}
use Rattle.wb_desk.specs.Entries.{leaves_all}
use Rattle.wb_desk.specs.Serving.{AnswersCourse, IsStrange, share_after}
use Rattle.wb_desk.specs.declared.entry.Entry.{Entry}
use Rattle.wb_kept_seats.specs.KeptCourses.{KeptCourse}

-- It is answered as at any desk, and the lines of what it changed come to the changes of the turn under way. The turns that were made are
-- left as they are. Where there is no memory for such a line, no further turn is made.
pub record AnswersKept (k : KeptCourse) (seat : ℕ) (own : List Entry) (asked : Request) (r : Reply) (l : KeptCourse) : Type 0 where
  pub strange : IsStrange k.course seat own r
  pub answers : AnswersCourse k.course seat asked r l.course
  pub total : l.total ≡ share_after k.total r
  pub turns : (l.made ≡ k.made) × (l.taken ≡ k.taken)
  pub waits : l.is_open ≡ true → (k.is_open ≡ true) × AddsLinesOf (changes_made r (Ok asked)) k.waiting l.waiting
  pub stays_open : leaves_all r ≡ true → l.is_open ≡ k.is_open
