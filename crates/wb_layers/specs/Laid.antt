-- What a workbook shows with changes laid over it.
use Rattle.std.specs.Prelude.{◌≡◌, List, [], ◌∷◌, map, Option, refl}
use Rattle.std.proofs.Common.{ap}
use Rattle.std.specs.Coded.{Coded, code_by, coded×, coded_list, coded_option}
use Rattle.std.specs.FinMap.{code}
use Rattle.selective_undo.specs.declared.Change.{Change}
use Rattle.wb_cells.specs.contracts.cells.cell.Cell as cell_row
use Rattle.wb_cells.specs.contracts.cells.value.Value as value_row
use Rattle.wb_cells.specs.declared.cells.cell.Cell.{Cell}
use Rattle.wb_cells.specs.declared.cells.value.Value.{Value}
use Rattle.wb_cells.specs.Cells.{Cells, Changes}

-- The cells after the changes, and the changes, each cell once.
pub record Laid : Type 0 where
  pub cells : Cells
  pub laid : Changes

abbrev pub change_back : Cell × Option Value → Change Cell Value
change_back p = record { cell = p.0; value = p.1 }

pub changes_back : (xs : Changes) → map change_back (map (λ x. (x.cell, x.value)) xs) ≡ xs
changes_back [] = refl
changes_back (x ∷ xs) = ap (λ zs. x ∷ zs) (changes_back xs)

abbrev pub laid_code : Coded Laid
laid_code =
    code_by (Cells × List (Cell × Option Value))
    (coded× (code cell_row.the_row.coded value_row.the_row.coded) (coded_list (coded× cell_row.the_row.coded (coded_option value_row.the_row.coded))))
    (λ a. (a.cells, map (λ x. (x.cell, x.value)) a.laid)) (λ p. record { cells = p.0; laid = map change_back p.1 })
    (λ a. ap (λ xs. record { cells = a.cells; laid = xs }) (changes_back a.laid))
