-- Labels in one list of bytes, each with the number that its cell becomes, if it is to be there.
use Rattle.std.specs.Prelude.{ℕ, ◌+◌, ◌≤◌, ℤ, List, length, map, take, drop, Option, Some, None, if◌then◌else◌}
use Rattle.wb_sets.specs.Labels.{IsLabel}
use Rattle.wb_cells.specs.declared.changes.labels.LabelEntry.{LabelEntry}

-- the bytes of a label: so many, from where it begins
abbrev pub label_in : List ℕ → LabelEntry → List ℕ
label_in bytes e = take e.len (drop e.start bytes)

-- the number, if the cell is to be there
abbrev pub number_in : LabelEntry → Option ℤ
number_in e = if e.is_there then Some e.number else None

-- a label with its number, or none
abbrev pub entry_in : List ℕ → LabelEntry → List ℕ × Option ℤ
entry_in bytes e = (label_in bytes e, number_in e)

abbrev pub entries_in : List ℕ → List LabelEntry → List (List ℕ × Option ℤ)
entries_in bytes es = map (entry_in bytes) es

-- a label stands there
pub record IsKept (bytes : List ℕ) (e : LabelEntry) : Type 0 where
  pub within : e.start + e.len ≤ length bytes
  pub text : IsLabel (label_in bytes e)
