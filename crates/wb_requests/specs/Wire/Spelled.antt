-- Which JSON objects (RFC 8259, section 4) are requests, apart from how they are read: an object has the members that the
-- table lists, each once and in any order, and no others, and the value of each spells what the table says.
use Rattle.std.specs.Prelude.{◌≡◌, ℕ, ℤ, List, [], ◌∷◌, length, true, if◌then◌else◌, bytes_eq, Option, Some, None, Ok}
use Rattle.serde_json.specs.Data.{Num, Data, number as json_number, string, array, object, Items as JsonItems, no_items, item, Members, no_members, member}
use Rattle.serde_json.specs.Find.{get_member, as_i64, as_u64}
use Rattle.wb_sets.specs.Labels.{is_label}
use Rattle.wb_dist.specs.Maps.{LayoutMap, whole}
use Rattle.wb_cells.specs.Names.{is_name}
use Rattle.wb_cells.specs.Shapes.{indices}
use Rattle.wb_cells.specs.declared.values.index.Index.{Index}
use Rattle.wb_cells.specs.declared.values.index.Index.TheVariants.{Point, Text}
use Rattle.wb_literals.specs.Grammar as grammar
use Rattle.wb_literals.specs.Set.{Items as Listed}
use Rattle.wb_literals.specs.declared.mapping.MappingLiteral.{MappingLiteral}
use Rattle.wb_literals.specs.declared.rectangle.RectangleLiteral.{RectangleLiteral}
use Rattle.wb_literals.specs.Limits.Literals.{listed_in, domain_within}
use Rattle.wb_literals.specs.Limits.Mappings.{mapping_within}
use Rattle.wb_reshape.specs.Sources.{ascending}
use Rattle.wb_reshape.specs.declared.operand.Operand.{Operand}
use Rattle.wb_reshape.specs.declared.operand.Operand.TheVariants.{Rectangle, Items, Named}
use Rattle.wb_edit.specs.declared.command.Command.{Command}
use Rattle.wb_edit.specs.Transactions.{AreSeveral, is_note}
use Rattle.wb_text.specs.Texts.Books.{is_book_text}
use Rattle.wb_requests.specs.declared.requests.request.Request.{Request}
use Rattle.wb_requests.specs.Wire.Table.{Meaning, word, name, integer, number, index, given, mapping, optional_mapping, book, numbers}
use Rattle.wb_requests.specs.Wire.Table.{some_set, some_numbers, note, edits, Fields, command_table, table}

-- ---- what one value spells

-- a number without fraction or exponent, of 64 bits with a sign
abbrev pub IsInteger : Data → ℤ → Type 0
IsInteger d z = (n : Num) × (d ≡ json_number n) × (as_i64 n ≡ Some z)

-- such numbers, one after another
abbrev pub AreIntegers : JsonItems → List ℤ → Type 0
AreIntegers no_items [] = Unit {0}
AreIntegers (item d ds) (z ∷ zs) = IsInteger d z × AreIntegers ds zs
AreIntegers no_items (z ∷ zs) = ⊥
AreIntegers (item d ds) [] = ⊥

-- an array of them
abbrev pub IsIntegers : Data → List ℤ → Type 0
IsIntegers d zs = (ds : JsonItems) × (d ≡ array ds) × AreIntegers ds zs

-- the same without a sign
abbrev pub IsNumber : Data → ℕ → Type 0
IsNumber d k = (n : Num) × (d ≡ json_number n) × (as_u64 n ≡ Some k)

-- an index: an integer, an array of two or three, or a text that is a label
abbrev pub IsIndex : Data → Index → Type 0
IsIndex d (Point []) = ⊥
IsIndex d (Point (i ∷ [])) = IsInteger d i
IsIndex d (Point (i ∷ j ∷ [])) = (a b : Data) × (d ≡ array (item a (item b no_items))) × IsInteger a i × IsInteger b j
IsIndex d (Point (i ∷ j ∷ k ∷ [])) = (a b c : Data) × (d ≡ array (item a (item b (item c no_items)))) × IsInteger a i × IsInteger b j × IsInteger c k
IsIndex d (Point (i ∷ j ∷ k ∷ l ∷ is)) = ⊥
IsIndex d (Text t) = (d ≡ string t) × (is_label t ≡ true)

-- What is given for a domain: the literal of a rectangle within the limits, the literal of a set, which stands for its
-- indices, ascending and each once, or a name. (A literal begins with a brace, and no name does.)
abbrev pub IsOperand : Data → Operand → Type 0
IsOperand d (Rectangle ranges) = (text : List ℕ) × (literal : RectangleLiteral) × (d ≡ string text) × grammar.IsRectangle text literal ×
    (domain_within literal ≡ Ok ranges)
IsOperand d (Items is) = (text : List ℕ) × (listed : Listed) × (d ≡ string text) × grammar.IsSet text listed × (ascending (listed_in listed) ≡ is)
IsOperand d (Named n) = (d ≡ string n) × (is_name n ≡ true)

-- the literal of a mapping within the limits, all its parts of one rank
abbrev pub IsMapping : Data → LayoutMap → Type 0
IsMapping d m = (text : List ℕ) × (literal : MappingLiteral) × (d ≡ string text) × grammar.IsMapping text literal × (mapping_within literal ≡ Ok m)

-- what a value spells, by which values spell commands
abbrev pub SpellsBy : (Data → List Command → Type 0) → Data → Meaning → Type 0
SpellsBy E d (word w) = d ≡ string w
SpellsBy E d (name n) = (d ≡ string n) × (is_name n ≡ true)
SpellsBy E d (integer z) = IsInteger d z
SpellsBy E d (number k) = IsNumber d k
SpellsBy E d (index i) = IsIndex d i
SpellsBy E d (given g) = IsOperand d g
SpellsBy E d (mapping m) = IsMapping d m
SpellsBy E d (optional_mapping m) = IsMapping d m
SpellsBy E d (book text) = (d ≡ string text) × (is_book_text text ≡ true)
SpellsBy E d (numbers on vs) = IsIntegers d vs × (length vs ≡ length (indices on))
SpellsBy E d some_numbers = (vs : List ℤ) × IsIntegers d vs
SpellsBy E d some_set = (text : List ℕ) × (listed : Listed) × (d ≡ string text) × grammar.IsSet text listed
SpellsBy E d (note n) = (d ≡ string n) × (is_note n ≡ true)
SpellsBy E d (edits cs) = E d cs

-- what a missing member spells
abbrev pub MayLack : Meaning → Type 0
MayLack (optional_mapping m) = m ≡ whole
MayLack (word w) = ⊥
MayLack (name n) = ⊥
MayLack (integer z) = ⊥
MayLack (number k) = ⊥
MayLack (index i) = ⊥
MayLack (given g) = ⊥
MayLack (mapping m) = ⊥
MayLack (book text) = ⊥
MayLack (numbers on vs) = ⊥
MayLack some_set = ⊥
MayLack some_numbers = ⊥
MayLack (note n) = ⊥
MayLack (edits cs) = ⊥

-- what a member spells, if there is one
abbrev pub SaysBy : (Data → List Command → Type 0) → Option Data → Meaning → Type 0
SaysBy E (Some d) x = SpellsBy E d x
SaysBy E None x = MayLack x

-- ---- what an object says

-- the members without the one of a key
abbrev pub without : List ℕ → Members → Members
without k no_members = no_members
without k (member l d ms) = if bytes_eq k l then ms else member l d (without k ms)

-- The fields are there, in any order, each saying what it has to, and no other members.
abbrev pub HasFieldsBy : (Data → List Command → Type 0) → Members → Fields → Type 0
HasFieldsBy E ms [] = ms ≡ no_members
HasFieldsBy E ms (f ∷ fs) = SaysBy E (get_member f.0 ms) f.1 × HasFieldsBy E (without f.0 ms) fs

-- ---- commands within a transaction

-- A JSON value that is the request of a command. No member of it spells commands.
abbrev pub IsCommand : Data → Command → Type 0
IsCommand d c = (ms : Members) × (d ≡ object ms) × HasFieldsBy (λ v cs. ⊥) ms (command_table c)

-- such values, one after another
abbrev pub AreCommands : JsonItems → List Command → Type 0
AreCommands no_items [] = Unit {0}
AreCommands (item d ds) (c ∷ cs) = IsCommand d c × AreCommands ds cs
AreCommands no_items (c ∷ cs) = ⊥
AreCommands (item d ds) [] = ⊥

-- an array of 1 to 4,096 of them
abbrev pub IsEdits : Data → List Command → Type 0
IsEdits d cs = (ds : JsonItems) × (d ≡ array ds) × AreCommands ds cs × AreSeveral cs

-- ---- requests

abbrev pub Spells : Data → Meaning → Type 0
Spells d x = SpellsBy IsEdits d x

abbrev pub Says : Option Data → Meaning → Type 0
Says o x = SaysBy IsEdits o x

abbrev pub HasFields : Members → Fields → Type 0
HasFields ms fs = HasFieldsBy IsEdits ms fs

-- a JSON value that is the request
abbrev pub IsRequest : Data → Request → Type 0
IsRequest d r = (ms : Members) × (d ≡ object ms) × HasFields ms (table r)
