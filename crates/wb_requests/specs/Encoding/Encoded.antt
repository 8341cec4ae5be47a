-- The canonical line of an edit's request: every field is written, keys ascending, literals canonical.
use Rattle.std.specs.Prelude.{ℕ, List, [], ◌∷◌, map, codes}
use Rattle.serde_json.specs.Data.{Data, null, number as json_number, unsigned, string, array, no_items, object, Members, no_members, member}
use Rattle.serde_json.specs.View.{items_of}
use Rattle.serde_json.specs.Written.{compact_text}
use Rattle.wb_edit.specs.declared.command.Command.{Command}
use Rattle.wb_edit.specs.declared.edit.Edit.{Edit}
use Rattle.wb_reshape.specs.declared.operand.Operand.{Operand}
use Rattle.wb_reshape.specs.declared.operand.Operand.TheVariants.{Rectangle, Items, Named}
use Rattle.wb_text.specs.Literals.{rectangle_text, set_text, mapping_text}
use Rattle.wb_requests.specs.Encoding.Values.{integer_data, index_data}
use Rattle.wb_requests.specs.Encoding.Table.{Meaning, word, name, integer, number, index, given, mapping, optional_mapping, book, numbers}
use Rattle.wb_requests.specs.Encoding.Table.{some_set, some_numbers, note, edits, Fields, command_table, edit_table}

-- the canonical literal, or the name
abbrev pub given_text : Operand → List ℕ
given_text (Rectangle ranges) = rectangle_text ranges
given_text (Items is) = set_text is
given_text (Named n) = n

-- the canonical value of what is to be spelled, by that of commands
abbrev pub data_by : (List Command → Data) → Meaning → Data
data_by several (word w) = string w
data_by several (name n) = string n
data_by several (integer z) = integer_data z
data_by several (number k) = json_number (unsigned k)
data_by several (index i) = index_data i
data_by several (given g) = string (given_text g)
data_by several (mapping m) = string (mapping_text m)
data_by several (optional_mapping m) = string (mapping_text m)
data_by several (book text) = string text
data_by several (numbers on vs) = array (items_of (map integer_data vs))
data_by several some_set = string (codes "{}")
data_by several some_numbers = array no_items
data_by several (note n) = string n
data_by several (edits cs) = several cs

abbrev pub members_by : (List Command → Data) → Fields → Members
members_by several [] = no_members
members_by several (f ∷ fs) = member f.0 (data_by several f.1) (members_by several fs)

-- the canonical object of a command's request, in which no member spells commands
abbrev pub command_data : Command → Data
command_data c = object (members_by (λ cs. null) (command_table c))

abbrev pub commands_data : List Command → Data
commands_data cs = array (items_of (map command_data cs))

abbrev pub data_of : Meaning → Data
data_of x = data_by commands_data x

abbrev pub members_of : Fields → Members
members_of fs = members_by commands_data fs

-- the canonical object of an edit's request
abbrev pub edit_data : Edit → Data
edit_data e = object (members_of (edit_table e))

-- its line, without a line end
abbrev pub edit_text : Edit → List ℕ
edit_text e = compact_text (edit_data e)
