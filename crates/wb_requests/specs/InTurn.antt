-- A set and a get by their members in the ascending order of their keys.
use Rattle.std.specs.Prelude.{◌≡◌, ℕ, List, ◌∷◌, String, string_bytes, codes, option_and_then, Result, Ok}
use Rattle.std.specs.Option.{ok_or}
use Rattle.std.specs.declared.alloc.Global.{Global}
use Rattle.serde_json.specs.Data.{Data, string, object, member, no_members}
use Rattle.serde_json.specs.Find.{as_number, as_str, as_i64}
use Rattle.serde_json.specs.declared.value.Value.{Value}
use Rattle.wb_cells.specs.Cells.{Name}
use Rattle.wb_cells.specs.declared.values.index.Index.{Index}
use Rattle.wb_edit.specs.declared.command.Command.TheVariants.{Set}
use Rattle.wb_edit.specs.declared.query.Query.TheVariants.{Get}
use Rattle.wb_edit.specs.declared.refusal.Refusal.{Refusal}
use Rattle.wb_edit.specs.declared.refusal.Refusal.TheVariants.{BadRequest}
use Rattle.wb_requests.specs.Fields.{◌>>=◌, name_of, index_of}
use Rattle.wb_requests.specs.Requests.{of_command}
use Rattle.wb_requests.specs.declared.requests.request.Request.{Request}
use Rattle.wb_requests.specs.declared.requests.request.Request.TheVariants.{Ask}

-- the first of these members has this key and this value, and those come after it
abbrev pub Leads : List (String Global × Value) → List ℕ → Value → List (String Global × Value) → Type 0
Leads members key value rest = (name : String Global) × ((string_bytes name ≡ key) × (members ≡ (name, value) ∷ rest))

-- the object of a set, and of a get
abbrev pub set_data : Data → Data → Data → Data
set_data a i v = object (member (codes "a") a (member (codes "i") i (member (codes "op") (string (codes "set")) (member (codes "v") v no_members))))

abbrev pub get_data : Data → Data → Data
get_data a i = object (member (codes "a") a (member (codes "i") i (member (codes "op") (string (codes "get")) no_members)))

-- an undo of the latest edit
abbrev pub undo_data : Data
undo_data = object (member (codes "op") (string (codes "undo")) no_members)

-- the name that a value is
abbrev pub name_in : Data → Result Name Refusal
name_in d = do
  text ← ok_or (as_str d) BadRequest
  name_of text

-- the index that a value is
abbrev pub index_in : Data → Result Index Refusal
index_in d = ok_or (index_of d) BadRequest

-- what the members ask for
abbrev pub set_with : Data → Data → Data → Result Request Refusal
set_with a i v = do
  name ← name_in a
  index ← index_in i
  value ← ok_or (option_and_then as_i64 (as_number v)) BadRequest
  Ok (of_command (Set name index value))

abbrev pub get_with : Data → Data → Result Request Refusal
get_with a i = do
  name ← name_in a
  index ← index_in i
  Ok (Ask (Get name index))
