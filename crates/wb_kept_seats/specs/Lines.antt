-- Requests that were read of lines, and the lines of the changes that they make.
use Rattle.std.specs.Prelude.{◌≡◌, ℕ, List, string_bytes, Ok}
use Rattle.wb_requests.specs.Requests.{request}
use Rattle.wb_requests.specs.declared.requests.request.Request.{Request}
use Rattle.wb_requests.specs.declared.requests.request.Request.TheVariants.{Change}
use Rattle.wb_machine.specs.declared.replies.reply.Reply.{Reply}
use Rattle.wb_keeping.specs.Granting.Granting.{AddsIfEdited, AddsLinesOf, IsLineOf, IsOther, undos_made}
use Rattle.wb_kept_seats.specs.declared.lines.Ahead.{Ahead}
use Rattle.wb_kept_seats.specs.declared.lines.Ahead.TheVariants.{Edit, NoMemory, Other}

-- some line is read as this request
abbrev pub IsSaid : Request → Type 0
IsSaid asked = (line : List ℕ) × (request line ≡ Ok asked)

-- an edit, and its canonical line
abbrev pub IsLineOfEdit : Request → List ℕ → Type 0
IsLineOfEdit (Change e) line = IsLineOf (Change e) line
IsLineOfEdit asked line = ⊥

-- the line of a request, if it is an edit and there was memory
abbrev pub IsAhead : Request → Ahead → Type 0
IsAhead asked (Edit line) = IsLineOfEdit asked (string_bytes line)
IsAhead asked NoMemory = Unit {0}
IsAhead asked Other = IsOther asked

-- the line was added where the reply tells of a new edit, or else the undos and redos that the reply tells of
abbrev pub Adds : Ahead → Reply → (old new : List (List ℕ)) → Type 0
Adds (Edit line) reply old new = AddsIfEdited reply (string_bytes line) old new
Adds NoMemory reply old new = ⊥
Adds Other reply old new = AddsLinesOf (undos_made reply) old new
