-- What a line costs while a desk is locked for it, about, in bytes; and no line costs more than a whole turn may.
use Rattle.std.specs.Prelude.{ℕ, ◌+◌, ◌-◌, ◌*◌, min, List, [], ◌∷◌, length, slice_get, Option, None, Some, Result, Ok, Err}
use Rattle.wb_lines.specs.Turns.{cost_limit}
use Rattle.wb_edit.specs.declared.command.Command.{Command}
use Rattle.wb_edit.specs.declared.command.Command.TheVariants.{Domain, Remap, Sparse, Assoc, Array, Set, Irv, Copy, Fill, Put, FillAll, DropArray, All, Add, Remove}
use Rattle.wb_edit.specs.declared.command.Command.TheVariants.{DropDomain, Reshape}
use Rattle.wb_edit.specs.declared.edit.Edit.{Edit}
use Rattle.wb_edit.specs.declared.edit.Edit.TheVariants.{Command as OneCommand, Transaction, Load}
use Rattle.wb_history.specs.declared.query.Answer.{Answer}
use Rattle.wb_history.specs.declared.query.Answer.TheVariants as answers
use Rattle.wb_edit.specs.declared.query.Query.{Query}
use Rattle.wb_edit.specs.declared.query.Query.TheVariants.{Get, Size, Where, Piece, Reduce, State, Note}
use Rattle.wb_edit.specs.declared.refusal.Refusal.{Refusal}
use Rattle.wb_requests.specs.declared.requests.request.Request.{Request}
use Rattle.wb_requests.specs.declared.requests.request.Request.TheVariants.{Change, Undo, Redo, Cascade, Dependents, Ask, Print, History, Edits, Explain}
use Rattle.wb_machine.specs.declared.replies.reply.Reply.{Reply}
use Rattle.wb_machine.specs.declared.replies.reply.Reply.TheVariants.{Edited, Undone, Cascaded, Redone, Listed, Answered, Printed, PrintedFrom, Counted, Explained, Refused}
use Rattle.wb_desk.specs.declared.entry.Entry.{Entry}

-- ---- what a reply tells of

-- sixteen for each element of a piece
abbrev pub answer_cost : Answer → ℕ
answer_cost (answers.Value x) = 0
answer_cost (answers.Size n) = 0
answer_cost (answers.Locale l) = 0
answer_cost (answers.Piece pairs) = 16 * length pairs
answer_cost (answers.InForce b) = 0
answer_cost (answers.Note n) = 0

-- eight for each cell that was changed or set back, sixteen for each number of a list, and the length of a text
abbrev pub told_cost : Reply → ℕ
told_cost (Edited k n) = 8 * n
told_cost (Undone k n) = 8 * n
told_cost (Cascaded ks n) = 8 * n
told_cost (Redone k n) = 8 * n
told_cost (Listed ks) = 16 * length ks
told_cost (Answered a) = answer_cost a
told_cost (Printed t) = length t
told_cost (PrintedFrom n t) = length t
told_cost (Counted n w) = 0
told_cost (Explained wrong) = 0
told_cost (Refused why) = 0

-- of an entry's reply, if there is an entry
abbrev pub entry_cost : Option Entry → ℕ
entry_cost None = 0
entry_cost (Some e) = told_cost e.reply

-- of the last of these entries
abbrev pub last_cost : List Entry → ℕ
last_cost es = entry_cost (slice_get es (length es - 1))

-- ---- what it takes to answer, beyond that

-- A reduction looks at all elements, and replies with one.
abbrev pub look_cost : Query → ℕ
look_cost (Get a i) = 0
look_cost (Size d) = 0
look_cost (Where d i) = 0
look_cost (Piece a l) = 0
look_cost (Reduce a op) = cost_limit
look_cost (State k) = 0
look_cost (Note k) = 0

-- eight for a command that is about one cell; others may be about all elements of an array
abbrev pub command_cost : Command → ℕ
command_cost (Set a i v) = 8
command_cost (Irv a v) = 8
command_cost (Copy a i b j c) = 8
command_cost (Add d i) = 8
command_cost (Remove d i) = 8
command_cost (Domain d asked m) = cost_limit
command_cost (Remap d m) = cost_limit
command_cost (Sparse d parent) = cost_limit
command_cost (Assoc d type) = cost_limit
command_cost (Array a d) = cost_limit
command_cost (Fill a asked v) = cost_limit
command_cost (Put a asked) = cost_limit
command_cost (FillAll a v) = cost_limit
command_cost (DropArray a) = cost_limit
command_cost (All a how b) = cost_limit
command_cost (DropDomain d) = cost_limit
command_cost (Reshape d source) = cost_limit

abbrev pub commands_cost : List Command → ℕ
commands_cost [] = 0
commands_cost (c ∷ cs) = command_cost c + commands_cost cs

-- What a single edit costs its reply tells; of several it tells each cell once, and nothing where they are refused.
abbrev pub edit_cost : Edit → ℕ
edit_cost (OneCommand c) = 0
edit_cost (Transaction t) = min cost_limit (commands_cost t.0)
edit_cost (Load text) = 0

-- Dependents are looked for in the whole history, and a line that is explained is read, and its literals.
abbrev pub request_cost : Request → ℕ
request_cost (Change e) = edit_cost e
request_cost (Undo k) = 0
request_cost (Redo k) = 0
request_cost (Cascade k) = cost_limit
request_cost (Dependents k) = cost_limit
request_cost (Ask q) = look_cost q
request_cost Print = 0
request_cost (History from) = 0
request_cost Edits = 0
request_cost (Explain line) = min cost_limit (length line)

-- and nothing where a line is no request
abbrev pub asked_cost : Result Request Refusal → ℕ
asked_cost (Ok asked) = request_cost asked
asked_cost (Err why) = 0

-- ---- of a line

-- what it was read as, and its reply
abbrev pub line_cost : Result Request Refusal → Reply → ℕ
line_cost asked reply = min cost_limit (asked_cost asked + told_cost reply)

-- what it was read as, and the entries of its seat then
abbrev pub kept_line_cost : Result Request Refusal → List Entry → ℕ
kept_line_cost asked own = min cost_limit (asked_cost asked + last_cost own)
