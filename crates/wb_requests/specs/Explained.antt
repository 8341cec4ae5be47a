-- What is wrong with a line: the code that it is refused by, the field, and the rule that this breaks. Of all that is wrong it
-- is the first with the least code: first the line and its op, then which members there are, then their values in the order of
-- the op's form, then how many numbers a put has, and then the commands of a transaction, one after another.
use Rattle.std.specs.Prelude.{◌≡◌, ◌≢◌, ℕ, suc, ℤ, Bool, true, false, List, [], ◌∷◌, length, codes, bytes_eq, nat_eq, nat_lt, if◌then◌else◌, Contains}
use Rattle.std.specs.Prelude.{Option, Some, None, is_some, option_map, option_and_then, Result, Ok, Err}
use Rattle.std.specs.Option.{ok_or}
use Rattle.std.specs.Str.{is_utf8}
use Rattle.std.specs.List.{list_all}
use Rattle.serde_json.specs.Data.{Data, null, boolean, number as json_number, string, array, object, Items, no_items, item, Members, no_members, member}
use Rattle.serde_json.specs.Find.{get_item, get_member, as_number, as_str, as_i64, as_u64}
use Rattle.serde_json.specs.Read.{read}
use Rattle.wb_cells.specs.Shapes.{Range, indices}
use Rattle.wb_literals.specs.Domain.{Domain, rectangle, set}
use Rattle.wb_edit.specs.declared.refusal.Refusal.{Refusal}
use Rattle.wb_edit.specs.declared.refusal.Refusal.TheVariants.{BadRequest}
use Rattle.wb_requests.specs.Fields.{◌>>=◌, member_count, name_of, index_of, integers_of, key_type_of, operation_of, reduction_of, note_in, several_of, is_among}
use Rattle.wb_requests.specs.Encoding.Table.{command_ops}
use Rattle.wb_requests.specs.Literals.{literal_domain, literal_mapping, text_of_book, domain_within, mapping_within}
use Rattle.wb_requests.specs.Sources.{given_by, offsets_by}
use Rattle.wb_requests.specs.Wire.Faults.{Fault, bad_request, bad_literal, too_large, bad_mapping, code, fault_told, forms, Plain, Kind, plain, domain, mapping, source}
use Rattle.wb_requests.specs.Wire.Faults.{workbook, name, integer, number, index, integers, offsets, key_type, operation, reduction, any_text, note, several, kind_of}
use Rattle.wb_requests.specs.Wire.Faults.{Fails, NamesOp, IsWhole, IsMiscounted, NamesCommand, IsLeastFault}
use Rattle.wb_requests.specs.Wire.Spelled.{IsRequest}
use Rattle.wb_requests.specs.declared.requests.request.Request.{Request}

-- ---- rules

-- what is wanted
pub data Rule : Type 0 where
  -- of a line: it is JSON, and that is an object
  is_json : Rule
  is_object : Rule
  -- of an object: its op is one, it has no member but those of the op, it has those that the op always has, and of members in the
  -- place of one another it has one
  names_op : Rule
  has_no_more : Rule
  has_all : Rule
  has_one_of : Rule
  -- of a value: it spells what its kind says
  spells : Kind → Rule
  -- of the numbers of a put: they are as many as the indices
  are_counted : Rule
  -- of a command within a transaction: its op is that of a command
  names_command : Rule

-- what is wrong: a fault of a field, or of the whole where there is none, and the rule that it breaks; of a command within a
-- transaction its place too, from 0
pub record Explanation : Type 0 where
  pub fault : Fault
  pub field : Option (List ℕ)
  pub rule : Rule
  pub at : Option ℕ

-- what no value has to do with is a bad request
abbrev pub of_whole : Rule → Explanation
of_whole rule = record { fault = bad_request; field = None; rule = rule; at = None }

-- what is wrong with a field
abbrev pub at_field : Fault → List ℕ → Rule → Explanation
at_field f key rule = record { fault = f; field = Some key; rule = rule; at = None }

abbrev pub of_field : List ℕ → Rule → Explanation
of_field key rule = at_field bad_request key rule

-- ---- the fault of a value

-- why a value is refused, if it is
abbrev pub fault_in : {X : Type 0} → Result X Refusal → Option Fault
fault_in (Ok x) = None
fault_in (Err why) = Some (fault_told why)

abbrev pub text_in : Data → Result (List ℕ) Refusal
text_in d = ok_or (as_str d) BadRequest

-- a rectangle is within the limits; of a set nothing more is wanted
abbrev pub within : Domain → Result (Unit {0}) Refusal
within (rectangle r) = domain_within r >>= (λ ranges. Ok tt)
within (set items) = Ok tt

abbrev pub fault_of : Kind → Data → Option Fault
fault_of (plain name) d = fault_in (text_in d >>= name_of)
fault_of (plain integer) d = fault_in (ok_or (option_and_then as_i64 (as_number d)) BadRequest)
fault_of (plain number) d = fault_in (ok_or (option_and_then as_u64 (as_number d)) BadRequest)
fault_of (plain index) d = fault_in (ok_or (index_of d) BadRequest)
fault_of (plain integers) d = fault_in (ok_or (integers_of d) BadRequest)
fault_of (plain offsets) d = fault_in (offsets_by d)
fault_of (plain key_type) d = fault_in (text_in d >>= key_type_of)
fault_of (plain operation) d = fault_in (text_in d >>= operation_of)
fault_of (plain reduction) d = fault_in (text_in d >>= reduction_of)
fault_of (plain any_text) d = fault_in (text_in d)
fault_of (plain note) d = fault_in (text_in d >>= note_in)
fault_of (plain several) d = fault_in (ok_or (several_of d) BadRequest)
fault_of domain d = fault_in (text_in d >>= (λ text. literal_domain text >>= within))
fault_of mapping d = fault_in (text_in d >>= (λ text. literal_mapping text >>= mapping_within))
fault_of source d = fault_in (given_by d)
fault_of workbook d = fault_in (text_in d >>= text_of_book)

-- ---- which members there are

abbrev pub has : List (List ℕ) → List ℕ → Bool
has [] key = false
has (k ∷ ks) key = if bytes_eq k key then true else has ks key

abbrev pub is_there : Members → List ℕ → Bool
is_there ms key = is_some (get_member key ms)

-- the forms of an op: the keys of its other members
abbrev pub forms_of : List ℕ → List (List ℕ × List (List ℕ)) → List (List (List ℕ))
forms_of op [] = []
forms_of op (f ∷ fs) = if bytes_eq f.0 op then f.1 ∷ forms_of op fs else forms_of op fs

-- the members are those of the op and of these keys
abbrev pub is_form : Members → List (List ℕ) → Bool
is_form ms ks = if list_all (is_there ms) ks then nat_eq (member_count ms) (length (codes "op" ∷ ks)) else false

-- the form that an object has
abbrev pub form_in : Members → List (List (List ℕ)) → Option (List (List ℕ))
form_in ms [] = None
form_in ms (ks ∷ more) = if is_form ms ks then Some ks else form_in ms more

-- a key that some form has
abbrev pub some_has : List (List (List ℕ)) → List ℕ → Bool
some_has [] key = false
some_has (ks ∷ more) key = if has ks key then true else some_has more key

-- the first member that no form has
abbrev pub foreign_in : List (List (List ℕ)) → Members → Option (List ℕ)
foreign_in fs no_members = None
foreign_in fs (member k d ms) = if some_has ((codes "op" ∷ []) ∷ fs) k then foreign_in fs ms else Some k

-- the first of these keys that each form has, and that isn't there
abbrev pub missing_in : List (List (List ℕ)) → Members → List (List ℕ) → Option (List ℕ)
missing_in fs ms [] = None
missing_in fs ms (k ∷ ks) =
    if is_there ms k then missing_in fs ms ks else
    if list_all (λ f. has f k) fs then Some k else missing_in fs ms ks

-- what is wrong with an object that has none of the forms of its op
abbrev pub formless_by : Option (List ℕ) → Option (List ℕ) → Explanation
formless_by (Some foreign) missing = of_field foreign has_no_more
formless_by None (Some missing) = of_field missing has_all
formless_by None None = of_whole has_one_of

abbrev pub formless : Members → List (List ℕ) → List (List (List ℕ)) → Explanation
formless ms first more = formless_by (foreign_in (first ∷ more) ms) (missing_in (first ∷ more) ms first)

-- ---- the least of what is wrong with values

-- what is wrong with the value of a key
abbrev pub value_explained : List ℕ → Members → List ℕ → Option Explanation
value_explained op ms key =
    option_and_then (λ kind. option_and_then (λ d. option_map (λ f. at_field f key (spells kind)) (fault_of kind d))
    (get_member key ms)) (kind_of op key)

-- the first with the least code
abbrev pub lesser : Explanation → Option Explanation → Option Explanation
lesser x None = Some x
lesser x (Some y) = if nat_lt (code y.fault) (code x.fault) then Some y else Some x

abbrev pub least_of : Option Explanation → Option Explanation → Option Explanation
least_of None more = more
least_of (Some x) more = lesser x more

abbrev pub values_explained : List ℕ → Members → List (List ℕ) → Option Explanation
values_explained op ms [] = None
values_explained op ms (k ∷ ks) = least_of (value_explained op ms k) (values_explained op ms ks)

-- ---- as many numbers as indices

abbrev pub counted_on : List ℤ → Result (List Range) Refusal → Option Explanation
counted_on vs (Ok ranges) = if nat_eq (length vs) (length (indices ranges)) then None else Some (of_field (codes "vs") are_counted)
counted_on vs (Err why) = None

abbrev pub counted_over : List ℤ → Result Domain Refusal → Option Explanation
counted_over vs (Ok (rectangle r)) = counted_on vs (domain_within r)
counted_over vs (Ok (set items)) = None
counted_over vs (Err why) = None

-- by the numbers and the text of the rectangle
abbrev pub counted_by : Option (List ℤ) → Option (List ℕ) → Option Explanation
counted_by (Some vs) (Some text) = counted_over vs (literal_domain text)
counted_by (Some vs) None = None
counted_by None on = None

abbrev pub count_explained : Members → Option Explanation
count_explained ms = counted_by (option_and_then integers_of (get_member (codes "vs") ms)) (option_and_then as_str (get_member (codes "on") ms))

-- and only a put is counted
abbrev pub op_counted : List ℕ → Members → Option Explanation
op_counted op ms = if bytes_eq op (codes "put") then count_explained ms else None

-- ---- a line

-- what is wrong with an object of an op, by its forms
abbrev pub formed : Members → List ℕ → Option (List (List ℕ)) → Explanation → Option Explanation
formed ms op None otherwise = Some otherwise
formed ms op (Some keys) otherwise =
    least_of (values_explained op ms keys) (op_counted op ms)

abbrev pub op_explained : Members → List ℕ → List (List (List ℕ)) → Option Explanation
op_explained ms op [] = Some (of_field (codes "op") names_op)
op_explained ms op (f ∷ fs) = formed ms op (form_in ms (f ∷ fs)) (formless ms f fs)

-- ---- a command within a transaction

abbrev pub command_named : Members → Option (List ℕ) → Option Explanation
command_named ms None = Some (of_field (codes "op") names_command)
command_named ms (Some op) = if is_among command_ops op then op_explained ms op (forms_of op forms) else Some (of_field (codes "op") names_command)

-- what is wrong with a JSON value that is to be a command
abbrev pub command_explained : Data → Option Explanation
command_explained (object ms) = command_named ms (option_and_then as_str (get_member (codes "op") ms))
command_explained null = Some (of_whole is_object)
command_explained (boolean b) = Some (of_whole is_object)
command_explained (json_number n) = Some (of_whole is_object)
command_explained (string t) = Some (of_whole is_object)
command_explained (array ds) = Some (of_whole is_object)

-- the same, told of the command at a place
abbrev pub at_place : ℕ → Explanation → Explanation
at_place k x = record { fault = x.fault; field = x.field; rule = x.rule; at = Some k }

-- the first with the least code of several commands, the first of which is at this place
abbrev pub commands_explained : ℕ → Items → Option Explanation
commands_explained k no_items = None
commands_explained k (item d ds) = least_of (option_map (at_place k) (command_explained d)) (commands_explained (suc k) ds)

abbrev pub listed_explained : Option Data → Option Explanation
listed_explained (Some (array ds)) = commands_explained 0 ds
listed_explained _ = None

-- and only a transaction has commands
abbrev pub edits_explained : List ℕ → Members → Option Explanation
edits_explained op ms = if bytes_eq op (codes "transaction") then listed_explained (get_member (codes "edits") ms) else None

-- what is wrong with the object itself is told first: of a transaction it is a bad request, and no code is less
abbrev pub before_edits : Option Explanation → Option Explanation → Option Explanation
before_edits (Some x) more = Some x
before_edits None more = more

abbrev pub op_named : Members → Option (List ℕ) → Option Explanation
op_named ms None = Some (of_field (codes "op") names_op)
op_named ms (Some op) = before_edits (op_explained ms op (forms_of op forms)) (edits_explained op ms)

-- the members of an object; another value has none
abbrev pub members_in : Data → Members
members_in (object ms) = ms
members_in null = no_members
members_in (boolean b) = no_members
members_in (json_number n) = no_members
members_in (string t) = no_members
members_in (array ds) = no_members

-- what is wrong with a JSON value
abbrev pub data_explained : Data → Option Explanation
data_explained (object ms) = op_named ms (option_and_then as_str (get_member (codes "op") ms))
data_explained null = Some (of_whole is_object)
data_explained (boolean b) = Some (of_whole is_object)
data_explained (json_number n) = Some (of_whole is_object)
data_explained (string t) = Some (of_whole is_object)
data_explained (array ds) = Some (of_whole is_object)

abbrev pub json_explained : Option Data → Option Explanation
json_explained None = Some (of_whole is_json)
json_explained (Some d) = data_explained d

-- what is wrong with a line, if anything is
abbrev pub explained : List ℕ → Option Explanation
explained line = if is_utf8 line then json_explained (read line) else Some (of_whole is_json)

-- ---- the text of a rule

abbrev pub plain_rule : Plain → List ℕ
plain_rule name = codes "a name: 1 to 32 letters, digits and _, a letter first"
plain_rule integer = codes "an integer from -2^63 to 2^63-1, without fraction and exponent"
plain_rule number = codes "an integer from 0 to 2^64-1, without fraction and exponent"
plain_rule index = codes "an index: an integer, an array of 2 or 3 of them, or a text of at most 64 bytes without quotes, backslashes and control characters"
plain_rule integers = codes "an array of integers from -2^63 to 2^63-1"
plain_rule offsets = codes "an integer, or an array of 2 or 3 of them"
plain_rule key_type = codes "int or text"
plain_rule operation = codes "=, +, - or *"
plain_rule reduction = codes "+, min or max"
plain_rule any_text = codes "a text"
plain_rule note = codes "a text of at most 256 bytes without quotes, backslashes and control characters"
plain_rule several = codes "an array of 1 to 4096 edits"

-- what a literal has to be, by how it fails
abbrev pub literal_rule : List ℕ → List ℕ → List ℕ → Fault → List ℕ
literal_rule text grammar limits bad_request = text
literal_rule text grammar limits bad_literal = grammar
literal_rule text grammar limits too_large = limits
literal_rule text grammar limits bad_mapping = codes "parts of one rank, a box of filled ranges with stride 1, block sizes from 1, and a grid of 1 to 256 locales"

abbrev pub spelled_rule : Kind → Fault → List ℕ
spelled_rule (plain p) f = plain_rule p
spelled_rule domain f = literal_rule (codes "a text") (codes "a rectangle or a set, as {1..9} or {1, 5}") (codes "at most 65536 indices, bounds within 10^18") f
spelled_rule mapping f = literal_rule (codes "a text") (codes "none, blockDist(..), cyclicDist(..) or blockCycDist(..)") (codes "a box of at most 65536 indices, bounds within 10^18") f
spelled_rule source f = literal_rule (codes "a literal in braces, or the name of a domain") (codes "a rectangle or a set, as {1..9} or {1, 5}") (codes "at most 65536 indices, bounds within 10^18") f
spelled_rule workbook f = literal_rule (codes "a text") (codes "the text of a workbook, as print answers it") [] f

abbrev pub rule_text : Rule → Fault → List ℕ
rule_text is_json f = codes "JSON in UTF-8"
rule_text is_object f = codes "a JSON object"
rule_text names_op f = codes "an op"
rule_text has_no_more f = codes "no field that the op does not have"
rule_text has_all f = codes "each field that the op has"
rule_text has_one_of f = codes "one of the fields to, slice, translate, expand, or, and, minus and xor"
rule_text (spells kind) f = spelled_rule kind f
rule_text are_counted f = codes "as many numbers as the rectangle has indices"
rule_text names_command f = codes "an op that changes a domain or an array"

-- ---- what is promised of it

-- the member of a key has a value that fails as it is told
abbrev pub FailsAt : Data → List ℕ → Kind → Fault → Type 0
FailsAt d key kind f = (ms : Members) × (v : Data) × (d ≡ object ms) × (get_member key ms ≡ Some v) × Fails kind v f

-- an object of an op has a field that no form of the op has
pub record HasForeign (d : Data) (key : List ℕ) : Type 0 where
  pub members : Members
  pub op : List ℕ
  pub form : List (List ℕ)
  pub value : Data
  pub object_is : d ≡ object members
  pub op_is : NamesOp members op
  pub form_is : Contains forms (op, form)
  pub value_is : get_member key members ≡ Some value
  pub apart : key ≢ codes "op"
  pub foreign : (keys : List (List ℕ)) → Contains forms (op, keys) → Contains keys key → ⊥

-- an object of an op lacks a field that each form of the op has
pub record LacksField (d : Data) (key : List ℕ) : Type 0 where
  pub members : Members
  pub op : List ℕ
  pub form : List (List ℕ)
  pub object_is : d ≡ object members
  pub op_is : NamesOp members op
  pub form_is : Contains forms (op, form)
  pub missing : get_member key members ≡ None
  pub wanted : (keys : List (List ℕ)) → Contains forms (op, keys) → Contains keys key

-- what an object names is no op
abbrev pub NamesNone : Data → Type 0
NamesNone d = (ms : Members) (op : List ℕ) (keys : List (List ℕ)) → d ≡ object ms → NamesOp ms op → Contains forms (op, keys) → ⊥

-- A value's fault stands at its field, a count at the numbers; a field too many is one that no form has, and one too few one that
-- each form has. What is of no field makes a value no object, or an object of none of the forms.
abbrev pub AtField : Data → Option (List ℕ) → Rule → Fault → Type 0
AtField d (Some key) (spells kind) f = FailsAt d key kind f
AtField d (Some key) are_counted f = (key ≡ codes "vs") × IsMiscounted d
AtField d (Some key) names_op f = (key ≡ codes "op") × NamesNone d
AtField d (Some key) has_no_more f = HasForeign d key
AtField d (Some key) has_all f = LacksField d key
AtField d (Some key) names_command f = (key ≡ codes "op") × (NamesCommand d → ⊥)
AtField d None is_object f = (ms : Members) → d ≡ object ms → ⊥
AtField d None has_one_of f = IsWhole d → ⊥
AtField d _ _ f = ⊥

-- the same of a command at a place within a transaction
pub record AtPlace (d : Data) (place : ℕ) (field : Option (List ℕ)) (rule : Rule) (f : Fault) : Type 0 where
  pub members : Members
  pub listed : Items
  pub value : Data
  pub object_is : d ≡ object members
  pub op_is : NamesOp members (codes "transaction")
  pub edits_are : get_member (codes "edits") members ≡ Some (array listed)
  pub value_is : get_item place listed ≡ Some value
  pub told : AtField value field rule f

abbrev pub AtPlaceOr : Data → Option ℕ → Option (List ℕ) → Rule → Fault → Type 0
AtPlaceOr d None field rule f = AtField d field rule f
AtPlaceOr d (Some k) field rule f = AtPlace d k field rule f

-- Nothing is wrong with a request; of anything else a fault is told whose code is the least of all, where it is.
abbrev pub Tells : Data → Option Explanation → Type 0
Tells d None = (r : Request) × IsRequest d r
Tells d (Some x) = IsLeastFault d x.fault × AtPlaceOr d x.at x.field x.rule x.fault

-- the law
abbrev pub TellsTheLeast : Type 0
TellsTheLeast = (d : Data) → Tells d (data_explained d)
