-- The text of a history: the lines of its workbook's objects, and a line for each of its edits, in their order.
use Rattle.std.specs.Prelude.{◌≡◌, ℕ, ◌-◌, Bool, true, false, List, [], ◌∷◌, ◌++◌, length, drop, codes, decimal, Some, ⊤}
use Rattle.std.specs.List.{flat_map}
use Rattle.std.specs.Str.{is_utf8}
use Rattle.serde_json.specs.Read.{read}
use Rattle.selective_undo.specs.History.{replay}
use Rattle.wb_cells.specs.Cells.{Cells}
use Rattle.wb_cells.specs.Readers.{objects}
use Rattle.wb_edit.specs.declared.edit.Edit.{Edit}
use Rattle.wb_history.specs.Past.{Numbered, meant}
use Rattle.wb_text.specs.Lines.{object_line}
use Rattle.wb_requests.specs.Encoding.Encoded.{edit_data, edit_text}

-- whether an edit is in force
abbrev pub mark : Bool → List ℕ
mark true = codes "+ "
mark false = codes "- "

-- what the line of an edit says: its mark and its request, canonically spelled
abbrev pub said : Numbered → List ℕ
said x = mark x.in_force ++ edit_text x.edit

-- the line, with its end
abbrev pub edit_line : Numbered → List ℕ
edit_line x = said x ++ codes "\n"

-- the lines of a workbook's objects, as in the text of the workbook
abbrev pub objects_text : Cells → List ℕ
objects_text s = flat_map (object_line s) (objects s)

-- the text of a history; every line ends with a line feed, and nothing follows
abbrev pub history_text : List Numbered → List ℕ
history_text es =
    codes "chapel-workbook 2\n" ++ (objects_text (replay (meant es)) ++
    (codes "history " ++ (decimal (length es) ++ (codes "\n" ++ (flat_map edit_line es ++ codes "end\n")))))

-- the lines of the edits whose number, from 1, is this one or greater: from 0 on they are all, and behind the last edit there is none
abbrev pub lines_from : ℕ → List Numbered → List ℕ
lines_from k es = flat_map edit_line (drop (k - 1) es)

-- ---- what the lines of edits are

-- The line of an edit is UTF-8 that is the JSON of its request.
abbrev pub IsJson : Edit → Type 0
IsJson e = (is_utf8 (edit_text e) ≡ true) × (read (edit_text e) ≡ Some (edit_data e))

-- each line is
abbrev pub AreJson : List Numbered → Type 0
AreJson [] = ⊤
AreJson (x ∷ es) = IsJson x.edit × AreJson es
