-- Runs of changes of the members of one domain.
use Rattle.std.specs.Prelude.{ℤ, pos, Bool, true, false, List, map, Option, Some, None, option_map}
use Rattle.wb_cells.specs.declared.cells.cell.Cell.TheVariants.{Member}
use Rattle.wb_cells.specs.declared.cells.value.Value.{Value}
use Rattle.wb_cells.specs.declared.changes.row.IndexedRow.{IndexedRow}
use Rattle.wb_cells.specs.declared.values.index.Index.{Index}
use Rattle.wb_cells.specs.Cells.{Name, Changes}
use Rattle.wb_cells.specs.Runs.{cell_of, value_of}
use Rattle.wb_cells.specs.Stored.{is_member}
use Rattle.wb_cells.specs.WellFormed.{has}

-- the changes of the members of a domain at indices to one value, or to absent
abbrev pub members_to : Name → Option Value → List Index → Changes
members_to d v is = map (λ i. record { cell = Member d i; value = v }) is

-- a number that says that an index is there, or none
abbrev pub number_if : Bool → Option ℤ
number_if true = Some (pos 0)
number_if false = None

-- f gives the index of a key
module _ {K : Type 0} (f : K → Index) where
  -- the changes of a row by their keys, and by the numbers that are set, if they are
  abbrev pub keyed_changes : IndexedRow → List (K × Option ℤ) → Changes
  keyed_changes row es = map (λ e. record { cell = cell_of row (f e.0); value = option_map (value_of row) e.1 }) es

  -- a key, with a number if its index is among these
  abbrev pub key_found : List Index → K × Option ℤ → K × Option ℤ
  key_found is e = (e.0, number_if (has is (f e.0)))

  -- a key, with a number if its index is a member
  abbrev pub member_found : List (Name × List Index) → Name → K × Option ℤ → K × Option ℤ
  member_found sets d e = (e.0, number_if (is_member sets d (f e.0)))
