-- A new value of an element is taken back, and leaves the index.
use Rattle.std.proofs.Common.{◌≡◌, ℕ, ℤ, ◌+◌, ◌<◌, ◌==◌, nat_lt, Bool, true, false, if◌then◌else◌, List, Option, Some, None, refl, ap, ◌∙◌, arith}
use Rattle.std.proofs.lemmas.Bool.Decides.{nat_tests}
use Rattle.selective_undo.specs.Log.{Footprint}
use Rattle.wb_cells.specs.declared.cells.cell.Cell.{Cell}
use Rattle.wb_cells.specs.declared.cells.pattern.Pattern.{Pattern}
use Rattle.wb_cells.specs.Schema.{workbook}
use Rattle.wb_footprints.specs.Footprints.{Footprints, with_footprint}
use Rattle.wb_log.specs.declared.entry.Before.TheVariants.{Number}
use Rattle.wb_log.specs.declared.entry.Was.{Was}
use Rattle.wb_log.specs.declared.entry.Was.TheVariants.{Number as WasNumber}
use Rattle.wb_log.specs.Indexed.{up_to}
use Rattle.wb_log.specs.Records.{before_in, cell_before, one_kept}

-- what is kept, by the number that the cell held
pub kept_as : (rs : List Pattern) (c : Cell) (w : Was) (n : ℤ) → w ≡ WasNumber n →
    one_kept rs c (before_in w) ≡ Some (record { footprint = rs; inverse = cell_before c (Number n) })
kept_as rs c w n is = ap (λ (v : Was). one_kept rs c (before_in v)) is

-- ---- the footprints up to a number

entered : (e k : ℕ) → k < e → nat_lt e (k + 1) ≡ false
entered e k low = grind (arith, nat_tests)

pub there : (e k : ℕ) (f : Footprints) (o : Option (Footprint workbook)) → k < e → f (k + 1) ≡ o → up_to e f (k + 1) ≡ o
there e k f o low is = ap (λ (b : Bool). if b then None else f (k + 1)) (entered e k low) ∙ is

either : (a b : Bool) (y : Option (Footprint workbook)) → (if a then None else (if b then None else y)) ≡ (if b then None else (if a then None else y))
either true true y = refl
either true false y = refl
either false true y = refl
either false false y = refl

-- one is taken away of them
pub left : (e k : ℕ) (f : Footprints) (n : ℕ) → with_footprint (up_to e f) k None n ≡ up_to e (with_footprint f k None) n
left e k f n = either (k == n) (nat_lt e n) (f n)
