-- The request that a line is, or why it is none: the names, numbers and texts of all its fields are read first, then its
-- literals, then their limits are judged, and then its mapping.
use Rattle.std.specs.Prelude.{ℕ, ℤ, List, [], ◌∷◌, ◌++◌, length, codes, Option, Some, None, Result, Ok, Err, bytes_eq, nat_eq, nat_lt, if◌then◌else◌}
use Rattle.std.specs.Option.{ok_or}
use Rattle.std.specs.Str.{is_utf8}
use Rattle.serde_json.specs.Data.{Data, Items, no_items, item}
use Rattle.serde_json.specs.Read.{read}
use Rattle.wb_cells.specs.Cells.{Name}
use Rattle.wb_cells.specs.Shapes.{Range, indices}
use Rattle.wb_edit.specs.declared.asked_numbers.AskedNumbers.TheVariants.{Rectangle as numbered, Indices as not_numbered}
use Rattle.wb_edit.specs.declared.asked_rectangle.AskedRectangle.TheVariants.{Ranges, Indices}
use Rattle.wb_edit.specs.declared.command.Command.{Command}
use Rattle.wb_edit.specs.declared.command.Command.TheVariants.{Domain as NewDomain, Remap, Reshape, Sparse}
use Rattle.wb_edit.specs.declared.command.Command.TheVariants.{Assoc, DropDomain, Add, Remove, Array, Set}
use Rattle.wb_edit.specs.declared.command.Command.TheVariants.{Irv, Copy, Fill, Put, FillAll, DropArray, All}
use Rattle.wb_edit.specs.declared.edit.Edit.TheVariants.{Command as OneCommand, Transaction, Load}
use Rattle.wb_edit.specs.Edits.{command_in}
use Rattle.wb_edit.specs.declared.query.Query.TheVariants.{Get, Size, Where, Piece, Reduce, State, Note}
use Rattle.wb_edit.specs.declared.refusal.Refusal.{Refusal}
use Rattle.wb_edit.specs.declared.refusal.Refusal.TheVariants.{BadRequest}
use Rattle.wb_literals.specs.Domain.{Domain, rectangle, set}
use Rattle.wb_literals.specs.declared.mapping.MappingLiteral.{MappingLiteral}
use Rattle.wb_requests.specs.Fields.{◌>>=◌, field_count, has_fields, has_fields_and, text_field, optional_text, i64_field, u64_field, name_field}
use Rattle.wb_requests.specs.Fields.{index_field, integers_field, key_type_field, operation_field, reduction_field, optional_note, several_field, is_among}
use Rattle.wb_requests.specs.Encoding.Table.{command_ops}
use Rattle.wb_requests.specs.Literals.{literal_domain, literal_mapping, optional_mapping, text_of_book, domain_within, mapping_within}
use Rattle.wb_requests.specs.Sources.{source_of}
use Rattle.wb_requests.specs.Wire.Faults.{code, fault_told}
use Rattle.wb_requests.specs.declared.requests.request.Request.{Request}
use Rattle.wb_requests.specs.declared.requests.request.Request.TheVariants.{Change, Undo, Redo, Cascade, Dependents, Ask, Print, History, Edits, Explain}

-- the request to make a command
abbrev pub of_command : Command → Request
of_command c = Change (OneCommand c)

-- a new domain of what a literal spells, with a mapping: a set is no rectangle, which is for the workbook to refuse
abbrev pub domain_with : Name → Domain → MappingLiteral → Result Request Refusal
domain_with name (rectangle r) spelled = do
  ranges ← domain_within r
  mapping ← mapping_within spelled
  Ok (of_command (NewDomain name (Ranges ranges) mapping))
domain_with name (set items) spelled = do
  mapping ← mapping_within spelled
  Ok (of_command (NewDomain name Indices mapping))

-- a new domain by its literal and that of its mapping, where there is one
abbrev pub domain_by : Name → List ℕ → Option (List ℕ) → Result Request Refusal
domain_by name text map = do
  literal ← literal_domain text
  spelled ← optional_mapping map
  domain_with name literal spelled

-- a new domain beside the text of its mapping, where there is one
abbrev pub domain_beside : Option (List ℕ) → Data → Result Request Refusal
domain_beside map d = do
  name ← name_field (codes "d") d
  text ← text_field (codes "is") d
  domain_by name text map

-- {"op":"domain","d":NAME,"is":LITERAL}, or with "map":MAPPING too
abbrev pub domain_of : Data → Result Request Refusal
domain_of d = do
  map ← optional_text (codes "map") d
  unit ← has_fields_and 3 map d
  domain_beside map d

-- {"op":"remap","d":NAME,"map":MAPPING}
abbrev pub remap_of : Data → Result Request Refusal
remap_of d = do
  unit ← has_fields 3 d
  name ← name_field (codes "d") d
  text ← text_field (codes "map") d
  spelled ← literal_mapping text
  mapping ← mapping_within spelled
  Ok (of_command (Remap name mapping))

-- {"op":"sparse","d":NAME,"of":NAME}
abbrev pub sparse_of : Data → Result Request Refusal
sparse_of d = do
  unit ← has_fields 3 d
  name ← name_field (codes "d") d
  parent ← name_field (codes "of") d
  Ok (of_command (Sparse name parent))

-- {"op":"assoc","d":NAME,"of":TYPE}
abbrev pub assoc_of : Data → Result Request Refusal
assoc_of d = do
  unit ← has_fields 3 d
  name ← name_field (codes "d") d
  type ← key_type_field (codes "of") d
  Ok (of_command (Assoc name type))

-- {"op":"drop_domain","d":NAME}
abbrev pub drop_domain_of : Data → Result Request Refusal
drop_domain_of d = do
  unit ← has_fields 2 d
  name ← name_field (codes "d") d
  Ok (of_command (DropDomain name))

-- {"op":"add","d":NAME,"i":INDEX}
abbrev pub add_of : Data → Result Request Refusal
add_of d = do
  unit ← has_fields 3 d
  name ← name_field (codes "d") d
  index ← index_field (codes "i") d
  Ok (of_command (Add name index))

-- {"op":"remove","d":NAME,"i":INDEX}
abbrev pub remove_of : Data → Result Request Refusal
remove_of d = do
  unit ← has_fields 3 d
  name ← name_field (codes "d") d
  index ← index_field (codes "i") d
  Ok (of_command (Remove name index))

-- {"op":"reshape","d":NAME}, and one field more, which says where the new value comes from
abbrev pub reshape_of : Data → Result Request Refusal
reshape_of d = do
  unit ← has_fields 3 d
  name ← name_field (codes "d") d
  source ← source_of d
  Ok (of_command (Reshape name source))

-- {"op":"array","a":NAME,"d":NAME}
abbrev pub array_of : Data → Result Request Refusal
array_of d = do
  unit ← has_fields 3 d
  name ← name_field (codes "a") d
  domain ← name_field (codes "d") d
  Ok (of_command (Array name domain))

-- {"op":"drop_array","a":NAME}
abbrev pub drop_array_of : Data → Result Request Refusal
drop_array_of d = do
  unit ← has_fields 2 d
  name ← name_field (codes "a") d
  Ok (of_command (DropArray name))

-- {"op":"irv","a":NAME,"v":INTEGER}
abbrev pub irv_of : Data → Result Request Refusal
irv_of d = do
  unit ← has_fields 3 d
  name ← name_field (codes "a") d
  value ← i64_field (codes "v") d
  Ok (of_command (Irv name value))

-- {"op":"all","a":NAME,"how":OPERATION,"b":NAME}
abbrev pub all_of : Data → Result Request Refusal
all_of d = do
  unit ← has_fields 4 d
  name ← name_field (codes "a") d
  how ← operation_field (codes "how") d
  other ← name_field (codes "b") d
  Ok (of_command (All name how other))

-- {"op":"set","a":NAME,"i":INDEX,"v":INTEGER}
abbrev pub set_of : Data → Result Request Refusal
set_of d = do
  unit ← has_fields 4 d
  name ← name_field (codes "a") d
  index ← index_field (codes "i") d
  value ← i64_field (codes "v") d
  Ok (of_command (Set name index value))

-- a number at each index of what a literal spells: a set is no rectangle, which is for the workbook to refuse
abbrev pub fill_over : Name → Domain → ℤ → Result Request Refusal
fill_over name (rectangle r) value = do
  ranges ← domain_within r
  Ok (of_command (Fill name (Ranges ranges) value))
fill_over name (set items) value = Ok (of_command (Fill name Indices value))

-- {"op":"fill","a":NAME,"on":LITERAL,"v":INTEGER}
abbrev pub fill_of : Data → Result Request Refusal
fill_of d = do
  unit ← has_fields 4 d
  name ← name_field (codes "a") d
  text ← text_field (codes "on") d
  value ← i64_field (codes "v") d
  literal ← literal_domain text
  fill_over name literal value

-- a number for each index of ranges, in their order: as many as there are indices
abbrev pub put_on : Name → List Range → List ℤ → Result Request Refusal
put_on name on vs = if nat_eq (length vs) (length (indices on)) then Ok (of_command (Put name (numbered (on, vs)))) else Err BadRequest

-- numbers at the indices of what a literal spells: a set is no rectangle, which is for the workbook to refuse
abbrev pub put_over : Name → Domain → List ℤ → Result Request Refusal
put_over name (rectangle r) vs = do
  ranges ← domain_within r
  put_on name ranges vs
put_over name (set items) vs = Ok (of_command (Put name not_numbered))

-- {"op":"put","a":NAME,"on":LITERAL,"vs":INTEGERS}
abbrev pub put_of : Data → Result Request Refusal
put_of d = do
  unit ← has_fields 4 d
  name ← name_field (codes "a") d
  text ← text_field (codes "on") d
  vs ← integers_field (codes "vs") d
  literal ← literal_domain text
  put_over name literal vs

-- {"op":"fill_all","a":NAME,"v":INTEGER}
abbrev pub fill_all_of : Data → Result Request Refusal
fill_all_of d = do
  unit ← has_fields 3 d
  name ← name_field (codes "a") d
  value ← i64_field (codes "v") d
  Ok (of_command (FillAll name value))

-- {"op":"copy","a":NAME,"i":INDEX,"b":NAME,"j":INDEX,"c":INTEGER}
abbrev pub copy_of : Data → Result Request Refusal
copy_of d = do
  unit ← has_fields 6 d
  name ← name_field (codes "a") d
  index ← index_field (codes "i") d
  source ← name_field (codes "b") d
  place ← index_field (codes "j") d
  more ← i64_field (codes "c") d
  Ok (of_command (Copy name index source place more))

-- {"op":"load","text":TEXT}
abbrev pub load_of : Data → Result Request Refusal
load_of d = do
  unit ← has_fields 2 d
  text ← text_field (codes "text") d
  book ← text_of_book text
  Ok (Change (Load book))

-- {"op":"undo","k":NUMBER}
abbrev pub undo_by_number : Data → Result Request Refusal
undo_by_number d = do
  unit ← has_fields 2 d
  number ← u64_field (codes "k") d
  Ok (Undo (Some number))

-- the same with or without the field `k`
abbrev pub undo_of : Data → Result Request Refusal
undo_of d = if nat_eq (field_count d) 1 then Ok (Undo None) else undo_by_number d

-- {"op":"redo","k":NUMBER}
abbrev pub redo_of : Data → Result Request Refusal
redo_of d = do
  unit ← has_fields 2 d
  number ← u64_field (codes "k") d
  Ok (Redo number)

-- {"op":"cascade","k":NUMBER}
abbrev pub cascade_of : Data → Result Request Refusal
cascade_of d = do
  unit ← has_fields 2 d
  number ← u64_field (codes "k") d
  Ok (Cascade number)

-- {"op":"dependents","k":NUMBER}
abbrev pub dependents_of : Data → Result Request Refusal
dependents_of d = do
  unit ← has_fields 2 d
  number ← u64_field (codes "k") d
  Ok (Dependents number)

-- {"op":"get","a":NAME,"i":INDEX}
abbrev pub get_of : Data → Result Request Refusal
get_of d = do
  unit ← has_fields 3 d
  name ← name_field (codes "a") d
  index ← index_field (codes "i") d
  Ok (Ask (Get name index))

-- {"op":"where","d":NAME,"i":INDEX}
abbrev pub where_of : Data → Result Request Refusal
where_of d = do
  unit ← has_fields 3 d
  name ← name_field (codes "d") d
  index ← index_field (codes "i") d
  Ok (Ask (Where name index))

-- {"op":"size","d":NAME}
abbrev pub size_of : Data → Result Request Refusal
size_of d = do
  unit ← has_fields 2 d
  name ← name_field (codes "d") d
  Ok (Ask (Size name))

-- {"op":"piece","a":NAME,"l":NUMBER}
abbrev pub piece_of : Data → Result Request Refusal
piece_of d = do
  unit ← has_fields 3 d
  name ← name_field (codes "a") d
  locale ← u64_field (codes "l") d
  Ok (Ask (Piece name locale))

-- {"op":"reduce","a":NAME,"how":REDUCTION}
abbrev pub reduce_of : Data → Result Request Refusal
reduce_of d = do
  unit ← has_fields 3 d
  name ← name_field (codes "a") d
  how ← reduction_field (codes "how") d
  Ok (Ask (Reduce name how))

-- {"op":"state","k":NUMBER}
abbrev pub state_of : Data → Result Request Refusal
state_of d = do
  unit ← has_fields 2 d
  number ← u64_field (codes "k") d
  Ok (Ask (State number))

-- {"op":"note","k":NUMBER}
abbrev pub note_of : Data → Result Request Refusal
note_of d = do
  unit ← has_fields 2 d
  number ← u64_field (codes "k") d
  Ok (Ask (Note number))

-- {"op":"print"}
abbrev pub print_of : Data → Result Request Refusal
print_of d = do
  unit ← has_fields 1 d
  Ok Print

-- {"op":"history","from":NUMBER}
abbrev pub history_from : Data → Result Request Refusal
history_from d = do
  unit ← has_fields 2 d
  number ← u64_field (codes "from") d
  Ok (History (Some number))

-- the same with or without the field `from`
abbrev pub history_of : Data → Result Request Refusal
history_of d = if nat_eq (field_count d) 1 then Ok (History None) else history_from d

-- {"op":"edits"}
abbrev pub edits_of : Data → Result Request Refusal
edits_of d = do
  unit ← has_fields 1 d
  Ok Edits

-- {"op":"explain","line":TEXT}
abbrev pub explain_of : Data → Result Request Refusal
explain_of d = do
  unit ← has_fields 2 d
  line ← text_field (codes "line") d
  Ok (Explain line)

-- what is asked of a history, by its op
abbrev pub by_history_op : List ℕ → Data → Result Request Refusal
by_history_op op d =
    if bytes_eq op (codes "undo") then undo_of d else
    if bytes_eq op (codes "redo") then redo_of d else
    if bytes_eq op (codes "cascade") then cascade_of d else
    if bytes_eq op (codes "dependents") then dependents_of d else
    if bytes_eq op (codes "get") then get_of d else
    if bytes_eq op (codes "where") then where_of d else
    if bytes_eq op (codes "size") then size_of d else
    if bytes_eq op (codes "piece") then piece_of d else
    if bytes_eq op (codes "reduce") then reduce_of d else
    if bytes_eq op (codes "state") then state_of d else
    if bytes_eq op (codes "note") then note_of d else
    if bytes_eq op (codes "print") then print_of d else
    if bytes_eq op (codes "history") then history_of d else
    if bytes_eq op (codes "edits") then edits_of d else
    Err BadRequest

-- the same, or a change to an array
abbrev pub by_array_op : List ℕ → Data → Result Request Refusal
by_array_op op d =
    if bytes_eq op (codes "array") then array_of d else
    if bytes_eq op (codes "drop_array") then drop_array_of d else
    if bytes_eq op (codes "set") then set_of d else
    if bytes_eq op (codes "fill") then fill_of d else
    if bytes_eq op (codes "put") then put_of d else
    if bytes_eq op (codes "fill_all") then fill_all_of d else
    if bytes_eq op (codes "irv") then irv_of d else
    if bytes_eq op (codes "copy") then copy_of d else
    if bytes_eq op (codes "all") then all_of d else
    by_history_op op d

-- the same, or a change to a domain, a workbook that is loaded, or a line that is explained
abbrev pub by_single_op : List ℕ → Data → Result Request Refusal
by_single_op op d =
    if bytes_eq op (codes "domain") then domain_of d else
    if bytes_eq op (codes "remap") then remap_of d else
    if bytes_eq op (codes "sparse") then sparse_of d else
    if bytes_eq op (codes "assoc") then assoc_of d else
    if bytes_eq op (codes "drop_domain") then drop_domain_of d else
    if bytes_eq op (codes "reshape") then reshape_of d else
    if bytes_eq op (codes "add") then add_of d else
    if bytes_eq op (codes "remove") then remove_of d else
    if bytes_eq op (codes "load") then load_of d else
    if bytes_eq op (codes "explain") then explain_of d else
    by_array_op op d

-- ---- several commands as one

-- the command that a request makes
abbrev pub as_command : Request → Result Command Refusal
as_command (Change e) = ok_or (command_in e) BadRequest
as_command _ = Err BadRequest

-- the command that an object asks for by its op
abbrev pub command_by : List ℕ → Data → Result Command Refusal
command_by op d = if is_among command_ops op then by_single_op op d >>= as_command else Err BadRequest

abbrev pub command_of : Data → Result Command Refusal
command_of d = do
  op ← text_field (codes "op") d
  command_by op d

-- the one of two refusals with the least code, or the first
abbrev pub lesser_refusal : Refusal → Refusal → Refusal
lesser_refusal one more = if nat_lt (code (fault_told more)) (code (fault_told one)) then more else one

-- commands and one more, or the refusal with the least code
abbrev pub one_more : Result (List Command) Refusal → Result Command Refusal → Result (List Command) Refusal
one_more (Ok cs) (Ok c) = Ok (cs ++ c ∷ [])
one_more (Ok cs) (Err why) = Err why
one_more (Err one) (Ok c) = Err one
one_more (Err one) (Err more) = Err (lesser_refusal one more)

-- commands, or why they are refused
abbrev pub so_far : Option Refusal → List Command → Result (List Command) Refusal
so_far None cs = Ok cs
so_far (Some why) cs = Err why

-- the commands that values ask for, behind what is read before them
abbrev pub commands_after : Result (List Command) Refusal → Items → Result (List Command) Refusal
commands_after before no_items = before
commands_after before (item d ds) = commands_after (one_more before (command_of d)) ds

-- {"op":"transaction","edits":COMMANDS}, or with "note":NOTE too
abbrev pub transaction_of : Data → Result Request Refusal
transaction_of d = do
  note ← optional_note (codes "note") d
  unit ← has_fields_and 2 note d
  listed ← several_field (codes "edits") d
  commands ← commands_after (Ok []) listed
  Ok (Change (Transaction (commands, note)))

-- by its op
abbrev pub by_op : List ℕ → Data → Result Request Refusal
by_op op d = if bytes_eq op (codes "transaction") then transaction_of d else by_single_op op d

-- the request that a JSON value is
abbrev pub request_of : Data → Result Request Refusal
request_of d = do
  op ← text_field (codes "op") d
  by_op op d

-- the request of a text that is JSON, or none
abbrev pub of_json : Option Data → Result Request Refusal
of_json (Some d) = request_of d
of_json None = Err BadRequest

-- the request that a line is: UTF-8 that is JSON
abbrev pub request : List ℕ → Result Request Refusal
request line = if is_utf8 line then of_json (read line) else Err BadRequest
