-- Requests that a line can say: their names are names, their numbers are of 64 bits, their indices are points or labels, their
-- ranges and mappings are within the limits, and a set lists indices of one kind, ascending and each once.
use Rattle.std.specs.Prelude.{◌≡◌, ◌≤◌, ◌⊎◌, ℕ, ℤ, List, [], ◌∷◌, length, true}
use Rattle.wb_sets.specs.Labels.{IsLabel, is_label}
use Rattle.wb_rect.specs.Product.{IsRectangle}
use Rattle.wb_cells.specs.Layouts.{IsLayout}
use Rattle.wb_cells.specs.Names.{is_name}
use Rattle.wb_cells.specs.Shapes.{indices}
use Rattle.wb_cells.specs.declared.values.index.Index.{Index}
use Rattle.wb_cells.specs.declared.values.index.Index.TheVariants.{Point, Text}
use Rattle.wb_literals.specs.Integer.{IsWithin}
use Rattle.wb_reshape.specs.Sources.{ascending}
use Rattle.wb_reshape.specs.declared.operand.Operand.{Operand}
use Rattle.wb_reshape.specs.declared.operand.Operand.TheVariants.{Rectangle, Items, Named}
use Rattle.wb_edit.specs.declared.command.Command.{Command}
use Rattle.wb_edit.specs.Transactions.{AreSeveral, is_note}
use Rattle.wb_text.specs.Texts.Books.{is_book_text}
use Rattle.wb_requests.specs.declared.requests.request.Request.{Request}
use Rattle.wb_requests.specs.Wire.Table.{Meaning, word, name, integer, number, index, given, mapping, optional_mapping, book, numbers}
use Rattle.wb_requests.specs.Wire.Table.{some_set, some_numbers, note, edits, Fields, command_table, table}

abbrev pub AllWithin : List ℤ → Type 0
AllWithin [] = Unit {0}
AllWithin (i ∷ is) = IsWithin i × AllWithin is

-- a point of so many coordinates, each of 64 bits
abbrev pub IsPoint : ℕ → Index → Type 0
IsPoint rank (Point is) = (length is ≡ rank) × AllWithin is
IsPoint rank (Text t) = ⊥

abbrev pub IsText : Index → Type 0
IsText (Point is) = ⊥
IsText (Text t) = IsLabel t

abbrev pub ArePoints : ℕ → List Index → Type 0
ArePoints rank [] = Unit {0}
ArePoints rank (i ∷ is) = IsPoint rank i × ArePoints rank is

abbrev pub AreTexts : List Index → Type 0
AreTexts [] = Unit {0}
AreTexts (i ∷ is) = IsText i × AreTexts is

-- all are points of one rank from 1 to 3, or all are texts
abbrev pub AreAlike : List Index → Type 0
AreAlike is = ((rank : ℕ) × (1 ≤ rank) × (rank ≤ 3) × ArePoints rank is) ⊎ AreTexts is

-- one to three coordinates, each of 64 bits, or a text that is a label
abbrev pub IsProperIndex : Index → Type 0
IsProperIndex (Point is) = (1 ≤ length is) × (length is ≤ 3) × AllWithin is
IsProperIndex (Text t) = is_label t ≡ true

abbrev pub IsProperOperand : Operand → Type 0
IsProperOperand (Rectangle ranges) = IsRectangle (length ranges) ranges
IsProperOperand (Items is) = AreAlike is × (ascending is ≡ is)
IsProperOperand (Named n) = is_name n ≡ true

-- what can be spelled, by which commands can
abbrev pub IsProperBy : (List Command → Type 0) → Meaning → Type 0
IsProperBy P (word w) = Unit {0}
IsProperBy P (name n) = is_name n ≡ true
IsProperBy P (integer z) = IsWithin z
IsProperBy P (number k) = Unit {0}
IsProperBy P (index i) = IsProperIndex i
IsProperBy P (given g) = IsProperOperand g
IsProperBy P (mapping m) = IsLayout m
IsProperBy P (optional_mapping m) = IsLayout m
IsProperBy P (book text) = is_book_text text ≡ true
IsProperBy P (numbers on vs) = AllWithin vs × (length vs ≡ length (indices on))
IsProperBy P some_set = Unit {0}
IsProperBy P some_numbers = Unit {0}
IsProperBy P (note n) = is_note n ≡ true
IsProperBy P (edits cs) = P cs

abbrev pub AreProperBy : (List Command → Type 0) → Fields → Type 0
AreProperBy P [] = Unit {0}
AreProperBy P (f ∷ fs) = IsProperBy P f.1 × AreProperBy P fs

-- commands whose members can all be spelled
abbrev pub AreProperCommands : List Command → Type 0
AreProperCommands [] = Unit {0}
AreProperCommands (c ∷ cs) = AreProperBy (λ ds. ⊥) (command_table c) × AreProperCommands cs

-- 1 to 4,096 of them
abbrev pub AreProperEdits : List Command → Type 0
AreProperEdits cs = AreProperCommands cs × AreSeveral cs

abbrev pub AreProper : Fields → Type 0
AreProper fs = AreProperBy AreProperEdits fs

-- a request whose members can all be spelled
abbrev pub IsProperRequest : Request → Type 0
IsProperRequest r = AreProper (table r)
