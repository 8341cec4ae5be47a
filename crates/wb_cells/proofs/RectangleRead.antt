-- What the changes at every index of a rectangle read, by its ranges and cell by cell.
use Rattle.std.proofs.Common.{◌≡◌, ℤ, List, [], ◌∷◌, map, Option, refl, ap}
use Rattle.wb_cells.specs.declared.changes.row.IndexedRow.{IndexedRow}
use Rattle.wb_cells.specs.declared.values.index.Index.TheVariants.{Point}
use Rattle.wb_cells.specs.Reads.{one_of, patterns_of}
use Rattle.wb_cells.specs.Runs.{cell_of, packed_changes, rectangle_entries}
use Rattle.wb_cells.specs.Shapes.{Range, indices}
use Rattle.wb_rect.specs.Product.{product}

read_at : (row : IndexedRow) (n : Option ℤ) (ps : List (List ℤ)) →
    patterns_of (packed_changes row (map (λ p. (p, n)) ps)) ≡ map one_of (map (cell_of row) (map Point ps))
read_at row n [] = refl
read_at row n (p ∷ ps) = ap (λ xs. one_of (cell_of row (Point p)) ∷ xs) (read_at row n ps)

-- the patterns of the cells, one after another
pub rectangle_read : (row : IndexedRow) (rs : List Range) (n : Option ℤ) →
    patterns_of (packed_changes row (rectangle_entries rs n)) ≡ map one_of (map (cell_of row) (indices rs))
rectangle_read row rs n = read_at row n (product rs)
