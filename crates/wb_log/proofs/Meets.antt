-- The first later edit that meets one cell.
use Rattle.std.proofs.Common.{◌≡◌, ℕ, ◌+◌, Bool, true, false, ◌||◌, if◌then◌else◌, List, [], ◌∷◌, Option, Some, None, refl, ap, ◌∙◌}
use Rattle.selective_undo.specs.Log.{Footprint, blocks_undo, first_from}
use Rattle.wb_cells.specs.declared.cells.cell.Cell.{Cell}
use Rattle.wb_cells.specs.Schema.{workbook}
use Rattle.wb_footprints.specs.Footprints.{met_by}
use Rattle.wb_log.specs.declared.entry.Before.{Before}
use Rattle.wb_log.specs.Records.{cell_before}

or_false : (a : Bool) → a || false ≡ a
or_false true = refl
or_false false = refl

-- an edit that read or touched a cell is in the way of an undo of one that changed it alone
pub met_undo : (c : Cell) (was : Before) (o : Option (Footprint workbook)) → blocks_undo (cell_before c was) o ≡ met_by o c
met_undo c was None = refl
met_undo c was (Some f) = or_false (met_by (Some f) c)

-- the first that passes one test is the first that passes another, which is the same
pub first_like : {X : Type 0} (p q : X → Bool) → ((x : X) → p x ≡ q x) → (n : ℕ) (xs : List X) → first_from p n xs ≡ first_from q n xs
first_like p q e n [] = refl
first_like p q e n (x ∷ xs) =
    ap (λ (b : Bool). if b then Some n else first_from p (n + 1) xs) (e x) ∙ ap (λ (r : Option ℕ). if q x then Some n else r) (first_like p q e (n + 1) xs)
