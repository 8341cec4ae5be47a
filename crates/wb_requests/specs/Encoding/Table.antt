-- The requests of edits, one line each: the members that a request's JSON object has, keys ascending, and what the value of
-- each has to spell.
use Rattle.std.specs.Prelude.{ℕ, ℤ, List, [], ◌∷◌, codes, Option, Some, None}
use Rattle.wb_dist.specs.Maps.{LayoutMap}
use Rattle.wb_cells.specs.Cells.{Name}
use Rattle.wb_cells.specs.Shapes.{Range}
use Rattle.wb_cells.specs.declared.values.index.Index.{Index}
use Rattle.wb_cells.specs.declared.values.index.Index.TheVariants.{Point}
use Rattle.wb_cells.specs.declared.cells.kind.KeyType.{KeyType}
use Rattle.wb_cells.specs.declared.cells.kind.KeyType.TheVariants as types
use Rattle.wb_reshape.specs.declared.operand.Operand.{Operand}
use Rattle.wb_reshape.specs.declared.operand.Operand.TheVariants.{Rectangle}
use Rattle.wb_reshape.specs.declared.new_indices.Displacement.TheVariants.{Translate, Expand}
use Rattle.wb_reshape.specs.declared.new_indices.SetOperation.TheVariants.{Union, Intersection, Difference, SymmetricDifference}
use Rattle.wb_reshape.specs.declared.new_indices.NewIndices.TheVariants.{To, Slice, Displace, Combine}
use Rattle.wb_edit.specs.declared.asked_numbers.AskedNumbers.TheVariants as asked
use Rattle.wb_edit.specs.declared.asked_rectangle.AskedRectangle.TheVariants.{Ranges, Indices}
use Rattle.wb_edit.specs.declared.operation.Operation.{Operation}
use Rattle.wb_edit.specs.declared.operation.Operation.TheVariants as operations
use Rattle.wb_edit.specs.declared.command.Command.{Command}
use Rattle.wb_edit.specs.declared.command.Command.TheVariants.{Domain, Remap, Reshape, Sparse, Assoc}
use Rattle.wb_edit.specs.declared.command.Command.TheVariants.{DropDomain, Add, Remove, Array, Set, Irv, Copy}
use Rattle.wb_edit.specs.declared.command.Command.TheVariants.{Fill, Put, FillAll, DropArray, All}
use Rattle.wb_edit.specs.declared.edit.Edit.{Edit}
use Rattle.wb_edit.specs.declared.edit.Edit.TheVariants.{Command as OneCommand, Transaction, Load}

-- What a value spells.
pub data Meaning : Type 0 where
  -- this text and no other
  word : List ℕ → Meaning
  name : Name → Meaning
  -- an integer of 64 bits with a sign, and one without
  integer : ℤ → Meaning
  number : ℕ → Meaning
  index : Index → Meaning
  -- a rectangle, a set of indices, or a domain by its name
  given : Operand → Meaning
  mapping : LayoutMap → Meaning
  -- the same, in a member that may be missing; then all lies on one locale
  optional_mapping : LayoutMap → Meaning
  -- the text of a workbook
  book : List ℕ → Meaning
  -- an integer of 64 bits with a sign for each index of ranges, in their order
  numbers : List Range → List ℤ → Meaning
  -- whichever set of indices
  some_set : Meaning
  -- whichever integers
  some_numbers : Meaning
  -- the note of a transaction
  note : List ℕ → Meaning
  -- the requests of commands, 1 to 4,096 of them, in their order
  edits : List Command → Meaning

-- members of an object, each a key and what its value spells
abbrev pub Fields : Type 0
Fields = List (List ℕ × Meaning)

-- the member that names the op
abbrev pub op : List ℕ → List ℕ × Meaning
op o = (codes "op", word o)

abbrev pub type_word : KeyType → List ℕ
type_word types.Int = codes "int"
type_word types.Text = codes "text"

abbrev pub operation_word : Operation → List ℕ
operation_word operations.Assign = codes "="
operation_word operations.Sum = codes "+"
operation_word operations.Difference = codes "-"
operation_word operations.Product = codes "*"

-- the members of each command's request
abbrev pub command_table : Command → Fields
command_table (Domain d (Ranges is) map) = (codes "d", name d) ∷ (codes "is", given (Rectangle is)) ∷ (codes "map", optional_mapping map) ∷ op
    (codes "domain") ∷ []
command_table (Domain d Indices map) = (codes "d", name d) ∷ (codes "is", some_set) ∷ (codes "map", optional_mapping map) ∷ op (codes "domain") ∷ []
command_table (Sparse d parent) = (codes "d", name d) ∷ (codes "of", name parent) ∷ op (codes "sparse") ∷ []
command_table (Assoc d type) = (codes "d", name d) ∷ (codes "of", word (type_word type)) ∷ op (codes "assoc") ∷ []
command_table (DropDomain d) = (codes "d", name d) ∷ op (codes "drop_domain") ∷ []
command_table (Reshape d (To value)) = (codes "d", name d) ∷ op (codes "reshape") ∷ (codes "to", given value) ∷ []
command_table (Reshape d (Slice value)) = (codes "d", name d) ∷ op (codes "reshape") ∷ (codes "slice", given value) ∷ []
command_table (Reshape d (Displace Translate offsets)) = (codes "d", name d) ∷ op (codes "reshape") ∷ (codes "translate", index (Point offsets)) ∷ []
command_table (Reshape d (Displace Expand offsets)) = (codes "d", name d) ∷ (codes "expand", index (Point offsets)) ∷ op (codes "reshape") ∷ []
command_table (Reshape d (Combine Union value)) = (codes "d", name d) ∷ op (codes "reshape") ∷ (codes "or", given value) ∷ []
command_table (Reshape d (Combine Intersection value)) = (codes "and", given value) ∷ (codes "d", name d) ∷ op (codes "reshape") ∷ []
command_table (Reshape d (Combine Difference value)) = (codes "d", name d) ∷ (codes "minus", given value) ∷ op (codes "reshape") ∷ []
command_table (Reshape d (Combine SymmetricDifference value)) = (codes "d", name d) ∷ op (codes "reshape") ∷ (codes "xor", given value) ∷ []
command_table (Add d i) = (codes "d", name d) ∷ (codes "i", index i) ∷ op (codes "add") ∷ []
command_table (Remove d i) = (codes "d", name d) ∷ (codes "i", index i) ∷ op (codes "remove") ∷ []
command_table (Remap d map) = (codes "d", name d) ∷ (codes "map", mapping map) ∷ op (codes "remap") ∷ []
command_table (Array a d) = (codes "a", name a) ∷ (codes "d", name d) ∷ op (codes "array") ∷ []
command_table (DropArray a) = (codes "a", name a) ∷ op (codes "drop_array") ∷ []
command_table (Set a i v) = (codes "a", name a) ∷ (codes "i", index i) ∷ op (codes "set") ∷ (codes "v", integer v) ∷ []
command_table (Fill a (Ranges on) v) = (codes "a", name a) ∷ (codes "on", given (Rectangle on)) ∷ op (codes "fill") ∷ (codes "v", integer v) ∷ []
command_table (Fill a Indices v) = (codes "a", name a) ∷ (codes "on", some_set) ∷ op (codes "fill") ∷ (codes "v", integer v) ∷ []
command_table (Put a (asked.Rectangle r)) = (codes "a", name a) ∷ (codes "on", given (Rectangle r.0)) ∷ op (codes "put") ∷
    (codes "vs", numbers r.0 r.1) ∷ []
command_table (Put a asked.Indices) = (codes "a", name a) ∷ (codes "on", some_set) ∷ op (codes "put") ∷ (codes "vs", some_numbers) ∷ []
command_table (FillAll a v) = (codes "a", name a) ∷ op (codes "fill_all") ∷ (codes "v", integer v) ∷ []
command_table (Irv a v) = (codes "a", name a) ∷ op (codes "irv") ∷ (codes "v", integer v) ∷ []
command_table (Copy a i b j c) = (codes "a", name a) ∷ (codes "b", name b) ∷ (codes "c", integer c) ∷ (codes "i", index i) ∷ (codes "j", index j) ∷ op
    (codes "copy") ∷ []
command_table (All a how b) = (codes "a", name a) ∷ (codes "b", name b) ∷ (codes "how", word (operation_word how)) ∷ op (codes "all") ∷ []

-- the ops of commands
abbrev pub command_ops : List (List ℕ)
command_ops =
    codes "domain" ∷ codes "remap" ∷ codes "sparse" ∷ codes "assoc" ∷ codes "drop_domain" ∷ codes "reshape" ∷ codes "add" ∷ codes "remove" ∷
    codes "array" ∷ codes "drop_array" ∷ codes "set" ∷ codes "fill" ∷ codes "put" ∷ codes "fill_all" ∷ codes "irv" ∷ codes "copy" ∷ codes "all" ∷ []

-- the members of a transaction's request: its note, where it has one
abbrev pub transaction_table : List Command → Option (List ℕ) → Fields
transaction_table cs None = (codes "edits", edits cs) ∷ op (codes "transaction") ∷ []
transaction_table cs (Some n) = (codes "edits", edits cs) ∷ (codes "note", note n) ∷ op (codes "transaction") ∷ []

-- the members of each edit's request
abbrev pub edit_table : Edit → Fields
edit_table (OneCommand c) = command_table c
edit_table (Transaction t) = transaction_table t.0 t.1
edit_table (Load text) = op (codes "load") ∷ (codes "text", book text) ∷ []
