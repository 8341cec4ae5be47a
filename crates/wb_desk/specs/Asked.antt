-- Questions that are of no name and of no line, and questions at an index with what they are answered.
use Rattle.std.specs.Prelude.{Bool, true, false, None, Some}
use Rattle.wb_cells.specs.Cells.{Name}
use Rattle.wb_cells.specs.declared.values.index.Index.{Index}
use Rattle.wb_edit.specs.Trees.{plain}
use Rattle.wb_history.specs.declared.query.Answer.TheVariants as answers
use Rattle.wb_edit.specs.declared.query.Query.TheVariants as queries
use Rattle.wb_edit.specs.declared.refusal.Refusal.TheVariants as refusals
use Rattle.wb_requests.specs.declared.requests.request.Request.{Request}
use Rattle.wb_requests.specs.declared.requests.request.Request.TheVariants as asked
use Rattle.wb_machine.specs.declared.replies.reply.Reply.{Reply}
use Rattle.wb_machine.specs.declared.replies.reply.Reply.TheVariants as replies
use Rattle.wb_desk.specs.declared.at_index.Told.{Told}
use Rattle.wb_desk.specs.declared.at_index.Told.TheVariants.{Element, Locale, NoElement, NoLocale}
use Rattle.wb_desk.specs.declared.plain.Plain.{Plain}
use Rattle.wb_desk.specs.declared.plain.Plain.TheVariants.{State, Dependents, Print, History, HistoryFrom, Edits}

-- the request of a question that is of no name and of no line
abbrev pub plain_request : Plain → Request
plain_request (State k) = asked.Ask (queries.State k)
plain_request (Dependents k) = asked.Dependents k
plain_request Print = asked.Print
plain_request History = asked.History None
plain_request (HistoryFrom k) = asked.History (Some k)
plain_request Edits = asked.Edits

-- whether a request asks about a line
abbrev pub is_of_line : Request → Bool
is_of_line (asked.Explain line) = true
is_of_line (asked.Change e) = false
is_of_line (asked.Undo k) = false
is_of_line (asked.Redo k) = false
is_of_line (asked.Cascade k) = false
is_of_line (asked.Dependents k) = false
is_of_line (asked.Ask q) = false
is_of_line asked.Print = false
is_of_line (asked.History from) = false
is_of_line asked.Edits = false

-- the request at an index of which this was told: for an element, or for a locale
abbrev pub request_at : Name → Index → Told → Request
request_at a i (Element v) = asked.Ask (queries.Get a i)
request_at d i (Locale l) = asked.Ask (queries.Where d i)
request_at a i (NoElement why) = asked.Ask (queries.Get a i)
request_at d i (NoLocale why) = asked.Ask (queries.Where d i)

-- what was told of it, as a reply
abbrev pub reply_at : Told → Reply
reply_at (Element v) = replies.Answered (answers.Value v)
reply_at (Locale l) = replies.Answered (answers.Locale l)
reply_at (NoElement why) = replies.Refused (refusals.Refused (plain why))
reply_at (NoLocale why) = replies.Refused (refusals.Refused (plain why))
