-- Changes at every index of a rectangle, by its ranges and cell by cell.
use Rattle.std.proofs.Common.{◌≡◌, ℤ, List, [], ◌∷◌, map, Option, Some, option_map, refl, ap}
use Rattle.std.specs.List.{zip}
use Rattle.wb_cells.specs.declared.changes.row.IndexedRow.{IndexedRow}
use Rattle.wb_cells.specs.declared.changes.row.IndexedRow.TheVariants.{Elements}
use Rattle.wb_cells.specs.declared.values.index.Index.TheVariants.{Point}
use Rattle.wb_cells.specs.Cells.{Name}
use Rattle.wb_cells.specs.Runs.{cell_of, value_of, change_at, packed_changes, rectangle_entries, numbered_entries}
use Rattle.wb_cells.specs.Shapes.{Range, indices}
use Rattle.wb_rect.specs.Product.{product}
use Rattle.wb_edit.specs.Changed.{set_all}
use Rattle.wb_edit.specs.Commands.{number_cells}

set_at : (row : IndexedRow) (n : Option ℤ) (ps : List (List ℤ)) →
    packed_changes row (map (λ p. (p, n)) ps) ≡ set_all (map (cell_of row) (map Point ps)) (option_map (value_of row) n)
set_at row n [] = refl
set_at row n (p ∷ ps) = ap (λ xs. change_at row (p, n) ∷ xs) (set_at row n ps)

-- each of the cells becomes what the number stands for
pub rectangle_set : (row : IndexedRow) (rs : List Range) (n : Option ℤ) →
    packed_changes row (rectangle_entries rs n) ≡ set_all (map (cell_of row) (indices rs)) (option_map (value_of row) n)
rectangle_set row rs n = set_at row n (product rs)

numbers_at : (a : Name) (ps : List (List ℤ)) (ns : List ℤ) →
    packed_changes (Elements a) (zip ps (map (λ n. Some n) ns)) ≡ number_cells a (zip (map Point ps) ns)
numbers_at a [] ns = refl
numbers_at a (p ∷ ps) [] = refl
numbers_at a (p ∷ ps) (n ∷ ns) = ap (λ xs. change_at (Elements a) (p, Some n) ∷ xs) (numbers_at a ps ns)

-- each element becomes the number beside its index
pub numbers_set : (a : Name) (rs : List Range) (ns : List ℤ) → packed_changes (Elements a) (numbered_entries rs ns) ≡ number_cells a (zip (indices rs) ns)
numbers_set a rs ns = numbers_at a (product rs) ns
