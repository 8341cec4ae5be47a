-- Which histories have a text.
use Rattle.std.specs.Prelude.{◌≡◌, ℕ, List, [], ◌∷◌, Ok, ⊤}
use Rattle.selective_undo.specs.History.{IsLegal}
use Rattle.wb_edit.specs.declared.edit.Edit.{Edit}
use Rattle.wb_history.specs.Past.{Numbered, meant}
use Rattle.wb_requests.specs.Requests.{request}
use Rattle.wb_requests.specs.declared.requests.request.Request.TheVariants.{Change}
use Rattle.wb_requests.specs.Wire.Encoded.{request_line}
use Rattle.wb_requests.specs.Wire.Proper.{IsProperRequest}
pub use Rattle.wb_machine.specs.Encoding.Text.{mark, said, edit_line, objects_text, history_text}

-- a line can say the edit: its canonical request is read as its request
abbrev pub IsSaid : Edit → Type 0
IsSaid e = request (request_line (Change e)) ≡ Ok (Change e)

-- a line can say each edit, in force or not; those out of force need not be possible anywhere
abbrev pub AreSaid : List Numbered → Type 0
AreSaid [] = ⊤
AreSaid (x ∷ es) = IsSaid x.edit × AreSaid es

-- a line can say the members of each edit's request
abbrev pub AreProper : List Numbered → Type 0
AreProper [] = ⊤
AreProper (x ∷ es) = IsProperRequest (Change x.edit) × AreProper es

-- a line was read as the edit's request
abbrev pub IsAsked : Edit → Type 0
IsAsked e = (line : List ℕ) × (request line ≡ Ok (Change e))

-- each edit was asked for by a line
abbrev pub AreAsked : List Numbered → Type 0
AreAsked [] = ⊤
AreAsked (x ∷ es) = IsAsked x.edit × AreAsked es

-- each edit in force is accepted in its place
abbrev pub IsHistory : List Numbered → Type 0
IsHistory es = IsLegal (meant es) × AreSaid es

-- a text that no history has
abbrev pub IsNoHistory : List ℕ → Type 0
IsNoHistory text = (es : List Numbered) → IsHistory es → text ≡ history_text es → ⊥
