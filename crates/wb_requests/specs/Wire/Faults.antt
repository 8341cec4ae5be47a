-- Why a JSON value is no request, apart from the order in which it is read: what is wrong with each member, and with the
-- object itself. The least code among all that is wrong is the answer.
use Rattle.std.specs.Prelude.{◌≡◌, ◌≢◌, ◌≤◌, ◌⊎◌, ℕ, ℤ, List, [], ◌∷◌, ◌++◌, codes, length, bytes_eq, if◌then◌else◌, true, false, Option, Some, None, Err, Contains}
use Rattle.serde_json.specs.Data.{Data, string, array, object, Items, Members, no_members}
use Rattle.serde_json.specs.Events.{items_len}
use Rattle.serde_json.specs.Find.{get_item, get_member}
use Rattle.wb_cells.specs.Cells.{Name}
use Rattle.wb_cells.specs.Names.{is_name}
use Rattle.wb_cells.specs.Shapes.{Range, indices}
use Rattle.wb_cells.specs.declared.values.index.Index.{Index}
use Rattle.wb_cells.specs.declared.values.index.Index.TheVariants.{Point}
use Rattle.wb_cells.specs.declared.cells.kind.KeyType.{KeyType}
use Rattle.wb_edit.specs.declared.operation.Operation.{Operation}
use Rattle.wb_cells.specs.declared.refusal.WhyRefused as edits_of
use Rattle.wb_cells.specs.declared.refusal.WhyRefused.TheVariants as edits
use Rattle.wb_edit.specs.Trees.{plain as plain_refusal}
use Rattle.wb_arrays.specs.declared.reduction.Op.{Op}
use Rattle.wb_edit.specs.declared.refusal.Refusal.{Refusal}
use Rattle.wb_edit.specs.declared.refusal.Refusal.TheVariants.{BadRequest, BadLiteral, Refused}
use Rattle.wb_literals.specs.Domain.{Domain}
use Rattle.wb_literals.specs.Grammar as grammar
use Rattle.wb_literals.specs.declared.mapping.MappingLiteral.{MappingLiteral}
use Rattle.wb_literals.specs.declared.rectangle.RectangleLiteral.{RectangleLiteral}
use Rattle.wb_literals.specs.Limits.Literals.{domain_within}
use Rattle.wb_literals.specs.Limits.Mappings.{mapping_within}
use Rattle.wb_literals.specs.declared.limits.limit.LimitErr.TheVariants as limits
use Rattle.wb_reshape.specs.declared.operand.Operand.TheVariants.{Rectangle}
use Rattle.wb_text.specs.Texts.Books.{is_book_text}
use Rattle.wb_requests.specs.Wire.Table as table
use Rattle.wb_requests.specs.Wire.Spelled.{IsIntegers, Spells, without}

-- what can be wrong, by the code of its refusal
pub data Fault : Type 0 where
  -- E01: missing, not known, not of its type, or no name
  bad_request : Fault
  -- E02: a text that isn't in the grammar of its literal
  bad_literal : Fault
  -- E09: a literal beyond a limit
  too_large : Fault
  -- E15: a mapping whose parts don't fit one another
  bad_mapping : Fault

abbrev pub code : Fault → ℕ
code bad_request = 1
code bad_literal = 2
code too_large = 9
code bad_mapping = 15

-- what is answered
abbrev pub refusal_of : Fault → Refusal
refusal_of bad_request = BadRequest
refusal_of bad_literal = BadLiteral
refusal_of too_large = Refused (plain_refusal edits.TooLarge)
refusal_of bad_mapping = Refused (plain_refusal edits.BadMapping)

-- the fault that a refusal tells of
abbrev pub edit_fault_told : edits_of.WhyRefused → Fault
edit_fault_told edits.TooLarge = too_large
edit_fault_told edits.BadMapping = bad_mapping
edit_fault_told _ = bad_request

abbrev pub fault_told : Refusal → Fault
fault_told BadLiteral = bad_literal
fault_told (Refused e) = edit_fault_told e.why
fault_told _ = bad_request

-- ---- which members there are

-- Each op with the keys of its other members. An op with a member that may be missing has two forms, and a reshape has one
-- for each source.
abbrev pub forms : List (List ℕ × List (List ℕ))
forms =
    (codes "domain", codes "d" ∷ codes "is" ∷ [])
    ∷ (codes "domain", codes "d" ∷ codes "is" ∷ codes "map" ∷ [])
    ∷ (codes "sparse", codes "d" ∷ codes "of" ∷ [])
    ∷ (codes "assoc", codes "d" ∷ codes "of" ∷ [])
    ∷ (codes "drop_domain", codes "d" ∷ [])
    ∷ (codes "reshape", codes "d" ∷ codes "to" ∷ [])
    ∷ (codes "reshape", codes "d" ∷ codes "slice" ∷ [])
    ∷ (codes "reshape", codes "d" ∷ codes "translate" ∷ [])
    ∷ (codes "reshape", codes "d" ∷ codes "expand" ∷ [])
    ∷ (codes "reshape", codes "d" ∷ codes "or" ∷ [])
    ∷ (codes "reshape", codes "d" ∷ codes "and" ∷ [])
    ∷ (codes "reshape", codes "d" ∷ codes "minus" ∷ [])
    ∷ (codes "reshape", codes "d" ∷ codes "xor" ∷ [])
    ∷ (codes "add", codes "d" ∷ codes "i" ∷ [])
    ∷ (codes "remove", codes "d" ∷ codes "i" ∷ [])
    ∷ (codes "remap", codes "d" ∷ codes "map" ∷ [])
    ∷ (codes "array", codes "a" ∷ codes "d" ∷ [])
    ∷ (codes "drop_array", codes "a" ∷ [])
    ∷ (codes "set", codes "a" ∷ codes "i" ∷ codes "v" ∷ [])
    ∷ (codes "fill", codes "a" ∷ codes "on" ∷ codes "v" ∷ [])
    ∷ (codes "fill_all", codes "a" ∷ codes "v" ∷ [])
    ∷ (codes "irv", codes "a" ∷ codes "v" ∷ [])
    ∷ (codes "copy", codes "a" ∷ codes "i" ∷ codes "b" ∷ codes "j" ∷ codes "c" ∷ [])
    ∷ (codes "all", codes "a" ∷ codes "how" ∷ codes "b" ∷ [])
    ∷ (codes "undo", [])
    ∷ (codes "undo", codes "k" ∷ [])
    ∷ (codes "redo", codes "k" ∷ [])
    ∷ (codes "get", codes "a" ∷ codes "i" ∷ [])
    ∷ (codes "where", codes "d" ∷ codes "i" ∷ [])
    ∷ (codes "size", codes "d" ∷ [])
    ∷ (codes "piece", codes "a" ∷ codes "l" ∷ [])
    ∷ (codes "state", codes "k" ∷ [])
    ∷ (codes "print", [])
    ∷ (codes "history", [])
    ∷ (codes "history", codes "from" ∷ [])
    ∷ (codes "reduce", codes "a" ∷ codes "how" ∷ [])
    ∷ (codes "load", codes "text" ∷ [])
    ∷ (codes "cascade", codes "k" ∷ [])
    ∷ (codes "dependents", codes "k" ∷ [])
    ∷ (codes "edits", [])
    ∷ (codes "put", codes "a" ∷ codes "on" ∷ codes "vs" ∷ [])
    ∷ (codes "explain", codes "line" ∷ [])
    ∷ (codes "note", codes "k" ∷ [])
    ∷ (codes "transaction", codes "edits" ∷ [])
    ∷ (codes "transaction", codes "edits" ∷ codes "note" ∷ [])
    ∷ []

-- the members of these keys are there, each once, in any order, and no others
abbrev pub HasKeys : Members → List (List ℕ) → Type 0
HasKeys ms [] = ms ≡ no_members
HasKeys ms (k ∷ ks) = ((v : Data) × (get_member k ms ≡ Some v)) × HasKeys (without k ms) ks

-- the op that an object names
abbrev pub NamesOp : Members → List ℕ → Type 0
NamesOp ms op = get_member (codes "op") ms ≡ Some (string op)

-- an object that names an op and has just the members of one of its forms, whatever their values are
abbrev pub IsWhole : Data → Type 0
IsWhole d = (ms : Members) × (op : List ℕ) × (keys : List (List ℕ)) × (d ≡ object ms) × NamesOp ms op × Contains forms (op, keys) ×
    HasKeys ms (codes "op" ∷ keys)

-- ---- what each member spells

-- what is no literal
pub data Plain : Type 0 where
  name : Plain
  integer : Plain
  number : Plain
  index : Plain
  -- an array of integers, however many
  integers : Plain
  -- an integer for each dimension
  offsets : Plain
  -- the type of an associative domain's indices, what becomes of each element of an array, and what of all of them
  key_type : Plain
  operation : Plain
  reduction : Plain
  -- a text, whichever it is
  any_text : Plain
  -- the note of a transaction
  note : Plain
  -- an array of 1 to 4,096 values, whatever they are
  several : Plain

pub data Kind : Type 0 where
  plain : Plain → Kind
  -- the literal of a rectangle or of a set, the literal of a mapping, and a literal or the name of a domain
  domain : Kind
  mapping : Kind
  source : Kind
  -- the text of a workbook
  workbook : Kind

-- what a key's value is to spell, in each op that has the key; but for `of` and `how`
abbrev pub kinds : List (List ℕ × Kind)
kinds =
    (codes "a", plain name)
    ∷ (codes "and", source)
    ∷ (codes "b", plain name)
    ∷ (codes "c", plain integer)
    ∷ (codes "d", plain name)
    ∷ (codes "edits", plain several)
    ∷ (codes "expand", plain offsets)
    ∷ (codes "from", plain number)
    ∷ (codes "i", plain index)
    ∷ (codes "is", domain)
    ∷ (codes "j", plain index)
    ∷ (codes "k", plain number)
    ∷ (codes "l", plain number)
    ∷ (codes "line", plain any_text)
    ∷ (codes "map", mapping)
    ∷ (codes "minus", source)
    ∷ (codes "note", plain note)
    ∷ (codes "on", domain)
    ∷ (codes "or", source)
    ∷ (codes "slice", source)
    ∷ (codes "text", workbook)
    ∷ (codes "to", source)
    ∷ (codes "translate", plain offsets)
    ∷ (codes "v", plain integer)
    ∷ (codes "vs", plain integers)
    ∷ (codes "xor", source)
    ∷ []

abbrev pub kind_in : List (List ℕ × Kind) → List ℕ → Option Kind
kind_in [] key = None
kind_in (x ∷ xs) key = if bytes_eq key x.0 then Some x.1 else kind_in xs key

-- What the value of a key is to spell, in a request of an op: `of` is a type or a name, and `how` an operation or a reduction.
-- No request has a member of another key, but for the op.
abbrev pub kind_of : List ℕ → List ℕ → Option Kind
kind_of op key =
    if bytes_eq key (codes "of") then Some (if bytes_eq op (codes "assoc") then plain key_type else plain name) else
    if bytes_eq key (codes "how") then Some (if bytes_eq op (codes "reduce") then plain reduction else plain operation) else
    kind_in kinds key

-- ---- what is wrong with a value

-- a text that begins with a brace
abbrev pub IsBraced : List ℕ → Type 0
IsBraced text = (rest : List ℕ) × (text ≡ codes "{" ++ rest)

-- E01: it spells nothing of its kind, or is no text where a literal is wanted. A source without a brace is a name.
abbrev pub IsBad : Kind → Data → Type 0
IsBad (plain name) d = (n : Name) → Spells d (table.name n) → ⊥
IsBad (plain integer) d = (z : ℤ) → Spells d (table.integer z) → ⊥
IsBad (plain number) d = (n : ℕ) → Spells d (table.number n) → ⊥
IsBad (plain index) d = (i : Index) → Spells d (table.index i) → ⊥
IsBad (plain integers) d = Spells d table.some_numbers → ⊥
IsBad (plain offsets) d = (is : List ℤ) → Spells d (table.index (Point is)) → ⊥
IsBad (plain key_type) d = (t : KeyType) → Spells d (table.word (table.type_word t)) → ⊥
IsBad (plain operation) d = (how : Operation) → Spells d (table.word (table.operation_word how)) → ⊥
IsBad (plain reduction) d = (how : Op) → Spells d (table.word (table.reduction_word how)) → ⊥
IsBad (plain any_text) d = (text : List ℕ) → Spells d (table.word text) → ⊥
IsBad (plain note) d = (n : List ℕ) → Spells d (table.note n) → ⊥
IsBad (plain several) d = (ds : Items) → d ≡ array ds → (1 ≤ items_len ds) × (items_len ds ≤ 4096) → ⊥
IsBad domain d = (text : List ℕ) → d ≡ string text → ⊥
IsBad mapping d = (text : List ℕ) → d ≡ string text → ⊥
IsBad workbook d = (text : List ℕ) → d ≡ string text → ⊥
IsBad source d = (text : List ℕ) → d ≡ string text → IsBraced text ⊎ (is_name text ≡ true) → ⊥

-- E02: a text, but not in the grammar of the literal, or no workbook's text
abbrev pub IsMisspelled : Kind → Data → Type 0
IsMisspelled domain d = (text : List ℕ) × (d ≡ string text) × ((literal : Domain) → grammar.IsDomain text literal → ⊥)
IsMisspelled mapping d = (text : List ℕ) × (d ≡ string text) × ((literal : MappingLiteral) → grammar.IsMapping text literal → ⊥)
IsMisspelled source d = (text : List ℕ) × (d ≡ string text) × IsBraced text × ((literal : Domain) → grammar.IsDomain text literal → ⊥)
IsMisspelled workbook d = (text : List ℕ) × (d ≡ string text) × (is_book_text text ≡ false)
IsMisspelled (plain p) d = ⊥

-- E09: the literal of a rectangle, or of a mapping, that is beyond a limit
abbrev pub IsTooLarge : Kind → Data → Type 0
IsTooLarge domain d = (text : List ℕ) × (literal : RectangleLiteral) × (d ≡ string text) × grammar.IsRectangle text literal ×
    (domain_within literal ≡ Err limits.TooLarge)
IsTooLarge source d = (text : List ℕ) × (literal : RectangleLiteral) × (d ≡ string text) × grammar.IsRectangle text literal ×
    (domain_within literal ≡ Err limits.TooLarge)
IsTooLarge mapping d = (text : List ℕ) × (literal : MappingLiteral) × (d ≡ string text) × grammar.IsMapping text literal ×
    (mapping_within literal ≡ Err limits.TooLarge)
IsTooLarge (plain p) d = ⊥
IsTooLarge workbook d = ⊥

-- E15: the literal of a mapping whose parts don't fit one another
abbrev pub DoesNotFit : Kind → Data → Type 0
DoesNotFit mapping d = (text : List ℕ) × (literal : MappingLiteral) × (d ≡ string text) × grammar.IsMapping text literal ×
    (mapping_within literal ≡ Err limits.BadMapping)
DoesNotFit (plain p) d = ⊥
DoesNotFit domain d = ⊥
DoesNotFit source d = ⊥
DoesNotFit workbook d = ⊥

-- A value has this fault. (It has one at most.)
abbrev pub Fails : Kind → Data → Fault → Type 0
Fails kind d bad_request = IsBad kind d
Fails kind d bad_literal = IsMisspelled kind d
Fails kind d too_large = IsTooLarge kind d
Fails kind d bad_mapping = DoesNotFit kind d

-- ---- what is wrong with the whole

-- a member whose value fails
pub record MemberFails (d : Data) (fault : Fault) : Type 0 where
  pub members : Members
  pub op : List ℕ
  pub key : List ℕ
  pub kind : Kind
  pub value : Data
  pub is_object : d ≡ object members
  pub names_op : NamesOp members op
  pub is_kind : kind_of op key ≡ Some kind
  pub is_value : get_member key members ≡ Some value
  pub fails : Fails kind value fault

-- a put whose numbers aren't as many as the indices of its rectangle, which is within the limits
pub record IsMiscounted (d : Data) : Type 0 where
  pub members : Members
  pub on : Data
  pub vs : Data
  pub ranges : List Range
  pub found : List ℤ
  pub is_object : d ≡ object members
  pub names_op : NamesOp members (codes "put")
  pub is_on : get_member (codes "on") members ≡ Some on
  pub is_vs : get_member (codes "vs") members ≡ Some vs
  pub rectangle : Spells on (table.given (Rectangle ranges))
  pub integral : IsIntegers vs found
  pub differ : length found ≢ length (indices ranges)

-- The members aren't those of a request, or the value of one fails, or one has more or fewer numbers than another has indices,
-- whatever else is wrong.
pub data IsOwnFault (d : Data) (fault : Fault) : Type 0 where
  not_whole : fault ≡ bad_request → (IsWhole d → ⊥) → IsOwnFault d fault
  of_member : MemberFails d fault → IsOwnFault d fault
  of_count : fault ≡ bad_request → IsMiscounted d → IsOwnFault d fault

-- ---- what is wrong with a command within a transaction

-- an object that names the op of a command
abbrev pub NamesCommand : Data → Type 0
NamesCommand d = (ms : Members) × (op : List ℕ) × (d ≡ object ms) × NamesOp ms op × Contains table.command_ops op

-- It is no object of a command's op, or something is wrong with it as an object.
pub data IsCommandFault (d : Data) (fault : Fault) : Type 0 where
  no_command : fault ≡ bad_request → (NamesCommand d → ⊥) → IsCommandFault d fault
  of_command : IsOwnFault d fault → IsCommandFault d fault

-- one of the edits of a transaction is wrong
pub record EditFails (d : Data) (fault : Fault) : Type 0 where
  pub members : Members
  pub listed : Items
  pub place : ℕ
  pub value : Data
  pub is_object : d ≡ object members
  pub names_op : NamesOp members (codes "transaction")
  pub is_edits : get_member (codes "edits") members ≡ Some (array listed)
  pub is_value : get_item place listed ≡ Some value
  pub fails : IsCommandFault value fault

-- ---- all that is wrong

-- Something is wrong with the object itself, or with one of its edits.
pub data IsFault (d : Data) (fault : Fault) : Type 0 where
  of_own : IsOwnFault d fault → IsFault d fault
  of_edit : EditFails d fault → IsFault d fault

-- a fault, and no other has a lower code
abbrev pub IsLeastFault : Data → Fault → Type 0
IsLeastFault d fault = IsFault d fault × ((other : Fault) → IsFault d other → code fault ≤ code other)
