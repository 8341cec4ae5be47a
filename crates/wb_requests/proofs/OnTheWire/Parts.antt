-- The request of a command within a transaction and on its own: no member of it spells commands, so it is one where it is the other.
use Rattle.std.proofs.Common.{◌≡◌, ℕ, Bool, true, false, List, [], ◌∷◌, codes, Option, Some, None, refl, sym, if◌then◌else◌}
use Rattle.serde_json.specs.Data.{Data, Members}
use Rattle.serde_json.specs.Find.{get_member}
use Rattle.wb_edit.specs.declared.asked_numbers.AskedNumbers.TheVariants.{Rectangle as numbered, Indices as not_numbered}
use Rattle.wb_edit.specs.declared.asked_rectangle.AskedRectangle.TheVariants.{Ranges, Indices}
use Rattle.wb_edit.specs.declared.command.Command.{Command}
use Rattle.wb_edit.specs.declared.command.Command.TheVariants.{Domain, Remap, Reshape, Sparse, Assoc}
use Rattle.wb_edit.specs.declared.command.Command.TheVariants.{DropDomain, Add, Remove, Array, Set, Irv, Copy}
use Rattle.wb_edit.specs.declared.command.Command.TheVariants.{Fill, Put, FillAll, DropArray, All}
use Rattle.wb_edit.specs.declared.edit.Edit.TheVariants.{Command as OneCommand, Transaction, Load}
use Rattle.wb_edit.specs.declared.query.Query.TheVariants.{Get, Size, Where, Piece, Reduce, State, Note}
use Rattle.wb_reshape.specs.declared.new_indices.Displacement.TheVariants.{Translate, Expand}
use Rattle.wb_reshape.specs.declared.new_indices.SetOperation.TheVariants.{Union, Intersection, Difference, SymmetricDifference}
use Rattle.wb_reshape.specs.declared.new_indices.NewIndices.TheVariants.{To, Slice, Displace, Combine}
use Rattle.wb_requests.specs.Fields.{is_among}
use Rattle.wb_requests.specs.Requests.{of_command}
use Rattle.wb_requests.specs.declared.requests.request.Request.{Request}
use Rattle.wb_requests.specs.declared.requests.request.Request.TheVariants.{Change, Undo, Redo, Cascade, Dependents, Ask, Print, History, Edits, Explain}
use Rattle.wb_requests.specs.Wire.Table.{Meaning, word, name, integer, number, index, given, mapping, optional_mapping, book, numbers}
use Rattle.wb_requests.specs.Wire.Table.{some_set, some_numbers, note, edits, Fields, command_ops, command_table, table}
use Rattle.wb_requests.specs.Wire.Spelled.{SpellsBy, SaysBy, Says, without, HasFieldsBy, HasFields, IsEdits}
use Rattle.wb_requests.proofs.OnTheWire.Members.{true_false, all_say}

-- ---- what spells no commands says the same, whatever spells commands

abbrev pub is_part : Meaning → Bool
is_part (word w) = true
is_part (name n) = true
is_part (integer z) = true
is_part (number k) = true
is_part (index i) = true
is_part (given g) = true
is_part (mapping m) = true
is_part (optional_mapping m) = true
is_part (book text) = true
is_part (numbers on vs) = true
is_part some_set = true
is_part some_numbers = true
is_part (note n) = true
is_part (edits cs) = false

abbrev pub are_parts : Fields → Bool
are_parts [] = true
are_parts (f ∷ fs) = if is_part f.1 then are_parts fs else false

both_parts : (b c : Bool) → (if b then c else false) ≡ true → (b ≡ true) × (c ≡ true)
both_parts true c e = (refl, e)
both_parts false c e = true_false (sym e)

module _ (E F : Data → List Command → Type 0) where
  part_spelled : (d : Data) (x : Meaning) → is_part x ≡ true → SpellsBy E d x → SpellsBy F d x
  part_spelled d (word w) p h = h
  part_spelled d (name n) p h = h
  part_spelled d (integer z) p h = h
  part_spelled d (number k) p h = h
  part_spelled d (index i) p h = h
  part_spelled d (given g) p h = h
  part_spelled d (mapping m) p h = h
  part_spelled d (optional_mapping m) p h = h
  part_spelled d (book text) p h = h
  part_spelled d (numbers on vs) p h = h
  part_spelled d some_set p h = h
  part_spelled d some_numbers p h = h
  part_spelled d (note n) p h = h
  part_spelled d (edits cs) p h = true_false (sym p)

  part_said : (o : Option Data) (x : Meaning) → is_part x ≡ true → SaysBy E o x → SaysBy F o x
  part_said (Some d) x p h = part_spelled d x p h
  part_said None x p h = h

  pub parts_hold : (fs : Fields) (ms : Members) → are_parts fs ≡ true → HasFieldsBy E ms fs → HasFieldsBy F ms fs
  parts_hold [] ms p h = h
  parts_hold (f ∷ fs) ms p h =
      let q = both_parts (is_part f.1) (are_parts fs) p in
      (part_said (get_member f.0 ms) f.1 q.0 h.0, parts_hold fs (without f.0 ms) q.1 h.1)

command_parts : (c : Command) → are_parts (command_table c) ≡ true
command_parts (Domain d (Ranges is) m) = refl
command_parts (Domain d Indices m) = refl
command_parts (Remap d m) = refl
command_parts (Sparse d parent) = refl
command_parts (Assoc d type) = refl
command_parts (DropDomain d) = refl
command_parts (Reshape d (To g)) = refl
command_parts (Reshape d (Slice g)) = refl
command_parts (Reshape d (Displace Translate is)) = refl
command_parts (Reshape d (Displace Expand is)) = refl
command_parts (Reshape d (Combine Union g)) = refl
command_parts (Reshape d (Combine Intersection g)) = refl
command_parts (Reshape d (Combine Difference g)) = refl
command_parts (Reshape d (Combine SymmetricDifference g)) = refl
command_parts (Add d i) = refl
command_parts (Remove d i) = refl
command_parts (Array a d) = refl
command_parts (DropArray a) = refl
command_parts (Set a i v) = refl
command_parts (Fill a (Ranges on) v) = refl
command_parts (Fill a Indices v) = refl
command_parts (Put a (numbered r)) = refl
command_parts (Put a not_numbered) = refl
command_parts (FillAll a v) = refl
command_parts (Irv a v) = refl
command_parts (Copy a i b j c) = refl
command_parts (All a how b) = refl

pub on_its_own : (ms : Members) (c : Command) → HasFieldsBy (λ v cs. ⊥) ms (command_table c) → HasFields ms (command_table c)
on_its_own ms c h = parts_hold (λ v cs. ⊥) IsEdits (command_table c) ms (command_parts c) h

pub within_several : (ms : Members) (c : Command) → HasFields ms (command_table c) → HasFieldsBy (λ v cs. ⊥) ms (command_table c)
within_several ms c h = parts_hold IsEdits (λ v cs. ⊥) (command_table c) ms (command_parts c) h

-- ---- the op of a request

abbrev pub op_of : Command → List ℕ
op_of (Domain d is m) = codes "domain"
op_of (Remap d m) = codes "remap"
op_of (Sparse d parent) = codes "sparse"
op_of (Assoc d type) = codes "assoc"
op_of (DropDomain d) = codes "drop_domain"
op_of (Reshape d x) = codes "reshape"
op_of (Add d i) = codes "add"
op_of (Remove d i) = codes "remove"
op_of (Array a d) = codes "array"
op_of (DropArray a) = codes "drop_array"
op_of (Set a i v) = codes "set"
op_of (Fill a on v) = codes "fill"
op_of (Put a asked) = codes "put"
op_of (FillAll a v) = codes "fill_all"
op_of (Irv a v) = codes "irv"
op_of (Copy a i b j c) = codes "copy"
op_of (All a how b) = codes "all"

pub op_said : (ms : Members) (c : Command) → HasFields ms (command_table c) → Says (get_member (codes "op") ms) (word (op_of c))
op_said ms (Domain d (Ranges is) m) h = let s = all_say (command_table (Domain d (Ranges is) m)) ms refl h in s.1.1.1.0
op_said ms (Domain d Indices m) h = let s = all_say (command_table (Domain d Indices m)) ms refl h in s.1.1.1.0
op_said ms (Remap d m) h = let s = all_say (command_table (Remap d m)) ms refl h in s.1.1.0
op_said ms (Sparse d parent) h = let s = all_say (command_table (Sparse d parent)) ms refl h in s.1.1.0
op_said ms (Assoc d type) h = let s = all_say (command_table (Assoc d type)) ms refl h in s.1.1.0
op_said ms (DropDomain d) h = let s = all_say (command_table (DropDomain d)) ms refl h in s.1.0
op_said ms (Reshape d (To g)) h = let s = all_say (command_table (Reshape d (To g))) ms refl h in s.1.0
op_said ms (Reshape d (Slice g)) h = let s = all_say (command_table (Reshape d (Slice g))) ms refl h in s.1.0
op_said ms (Reshape d (Displace Translate is)) h = let s = all_say (command_table (Reshape d (Displace Translate is))) ms refl h in s.1.0
op_said ms (Reshape d (Displace Expand is)) h = let s = all_say (command_table (Reshape d (Displace Expand is))) ms refl h in s.1.1.0
op_said ms (Reshape d (Combine Union g)) h = let s = all_say (command_table (Reshape d (Combine Union g))) ms refl h in s.1.0
op_said ms (Reshape d (Combine Intersection g)) h = let s = all_say (command_table (Reshape d (Combine Intersection g))) ms refl h in s.1.1.0
op_said ms (Reshape d (Combine Difference g)) h = let s = all_say (command_table (Reshape d (Combine Difference g))) ms refl h in s.1.1.0
op_said ms (Reshape d (Combine SymmetricDifference g)) h = let s = all_say (command_table (Reshape d (Combine SymmetricDifference g))) ms refl h in s.1.0
op_said ms (Add d i) h = let s = all_say (command_table (Add d i)) ms refl h in s.1.1.0
op_said ms (Remove d i) h = let s = all_say (command_table (Remove d i)) ms refl h in s.1.1.0
op_said ms (Array a d) h = let s = all_say (command_table (Array a d)) ms refl h in s.1.1.0
op_said ms (DropArray a) h = let s = all_say (command_table (DropArray a)) ms refl h in s.1.0
op_said ms (Set a i v) h = let s = all_say (command_table (Set a i v)) ms refl h in s.1.1.0
op_said ms (Fill a (Ranges on) v) h = let s = all_say (command_table (Fill a (Ranges on) v)) ms refl h in s.1.1.0
op_said ms (Fill a Indices v) h = let s = all_say (command_table (Fill a Indices v)) ms refl h in s.1.1.0
op_said ms (Put a (numbered r)) h = let s = all_say (command_table (Put a (numbered r))) ms refl h in s.1.1.0
op_said ms (Put a not_numbered) h = let s = all_say (command_table (Put a not_numbered)) ms refl h in s.1.1.0
op_said ms (FillAll a v) h = let s = all_say (command_table (FillAll a v)) ms refl h in s.1.0
op_said ms (Irv a v) h = let s = all_say (command_table (Irv a v)) ms refl h in s.1.0
op_said ms (Copy a i b j c) h = let s = all_say (command_table (Copy a i b j c)) ms refl h in s.1.1.1.1.1.0
op_said ms (All a how b) h = let s = all_say (command_table (All a how b)) ms refl h in s.1.1.1.0

-- it is that of a command
pub op_among : (c : Command) → is_among command_ops (op_of c) ≡ true
op_among (Domain d is m) = refl
op_among (Remap d m) = refl
op_among (Sparse d parent) = refl
op_among (Assoc d type) = refl
op_among (DropDomain d) = refl
op_among (Reshape d x) = refl
op_among (Add d i) = refl
op_among (Remove d i) = refl
op_among (Array a d) = refl
op_among (DropArray a) = refl
op_among (Set a i v) = refl
op_among (Fill a on v) = refl
op_among (Put a asked) = refl
op_among (FillAll a v) = refl
op_among (Irv a v) = refl
op_among (Copy a i b j c) = refl
op_among (All a how b) = refl

-- what is no command names another op
pub op_of_other : (ms : Members) (r : Request) → ((c : Command) → r ≡ of_command c → ⊥) → HasFields ms (table r) →
    (op : List ℕ) × Says (get_member (codes "op") ms) (word op) × (is_among command_ops op ≡ false)
op_of_other ms (Change (OneCommand c)) other h = absurd (other c refl)
op_of_other ms (Change (Transaction (cs, None))) other h =
    let s = all_say (table (Change (Transaction (cs, None)))) ms refl h in (codes "transaction", s.1.0, refl)
op_of_other ms (Change (Transaction (cs, Some n))) other h =
    let s = all_say (table (Change (Transaction (cs, Some n)))) ms refl h in (codes "transaction", s.1.1.0, refl)
op_of_other ms (Change (Load text)) other h = let s = all_say (table (Change (Load text))) ms refl h in (codes "load", s.0, refl)
op_of_other ms (Undo None) other h = let s = all_say (table (Undo None)) ms refl h in (codes "undo", s.0, refl)
op_of_other ms (Undo (Some k)) other h = let s = all_say (table (Undo (Some k))) ms refl h in (codes "undo", s.1.0, refl)
op_of_other ms (Redo k) other h = let s = all_say (table (Redo k)) ms refl h in (codes "redo", s.1.0, refl)
op_of_other ms (Cascade k) other h = let s = all_say (table (Cascade k)) ms refl h in (codes "cascade", s.1.0, refl)
op_of_other ms (Dependents k) other h = let s = all_say (table (Dependents k)) ms refl h in (codes "dependents", s.1.0, refl)
op_of_other ms (Ask (Get a i)) other h = let s = all_say (table (Ask (Get a i))) ms refl h in (codes "get", s.1.1.0, refl)
op_of_other ms (Ask (Where d i)) other h = let s = all_say (table (Ask (Where d i))) ms refl h in (codes "where", s.1.1.0, refl)
op_of_other ms (Ask (Size d)) other h = let s = all_say (table (Ask (Size d))) ms refl h in (codes "size", s.1.0, refl)
op_of_other ms (Ask (Piece a l)) other h = let s = all_say (table (Ask (Piece a l))) ms refl h in (codes "piece", s.1.1.0, refl)
op_of_other ms (Ask (Reduce a how)) other h = let s = all_say (table (Ask (Reduce a how))) ms refl h in (codes "reduce", s.1.1.0, refl)
op_of_other ms (Ask (State k)) other h = let s = all_say (table (Ask (State k))) ms refl h in (codes "state", s.1.0, refl)
op_of_other ms (Ask (Note k)) other h = let s = all_say (table (Ask (Note k))) ms refl h in (codes "note", s.1.0, refl)
op_of_other ms Print other h = let s = all_say (table Print) ms refl h in (codes "print", s.0, refl)
op_of_other ms (History None) other h = let s = all_say (table (History None)) ms refl h in (codes "history", s.0, refl)
op_of_other ms (History (Some k)) other h = let s = all_say (table (History (Some k))) ms refl h in (codes "history", s.1.0, refl)
op_of_other ms Edits other h = let s = all_say (table Edits) ms refl h in (codes "edits", s.0, refl)
op_of_other ms (Explain line) other h = let s = all_say (table (Explain line)) ms refl h in (codes "explain", s.1.0, refl)
