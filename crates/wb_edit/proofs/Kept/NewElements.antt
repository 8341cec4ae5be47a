-- New numbers as elements that are there keep a workbook well formed.
use Rattle.std.proofs.Common.{◌≡◌, Bool, true, false, cond, List, [], ◌∷◌, map, Option, Some, None, is_some, ℤ, FitsSigned, refl, ap, ◌∙◌}
use Rattle.std.specs.Int.{w64}
use Rattle.std.specs.Ordering.{eq_by_cmp}
use Rattle.std.specs.FinMap.{get, insert}
use Rattle.selective_undo.specs.Changes.{apply}
use Rattle.wb_cells.specs.declared.cells.cell.Cell.{Cell}
use Rattle.wb_cells.specs.declared.cells.cell.Cell.TheVariants.{Element}
use Rattle.wb_cells.specs.declared.cells.value.Value.{Value}
use Rattle.wb_cells.specs.declared.cells.value.Value.TheVariants.{Number}
use Rattle.wb_cells.specs.declared.values.index.Index.{Index}
use Rattle.wb_cells.specs.Cells.{Name, Cells, Changes, cell_cmp, cell_order}
use Rattle.wb_cells.specs.WellFormed.{IsWellFormed}
use Rattle.wb_edit.specs.Writes.{set_to, put_all}
use Rattle.wb_reshape.proofs.Gets.{get-apply}
use Rattle.wb_edit.proofs.Kept.Set.{element_set}

-- elements of a that are there, with numbers of 64 bits
abbrev pub AreNumbers : Cells → Name → List (Index × ℤ) → Type 0
AreNumbers s a [] = Unit {0}
AreNumbers s a (e ∷ es) = (is_some (get s (Element a e.0)) ≡ true) × FitsSigned w64 e.1 × AreNumbers s a es

abbrev pub new_numbers : Name → List (Index × ℤ) → Changes
new_numbers a es = map (λ e. set_to (Element a e.0) (Number e.1)) es

pub some_is : (v : Option Value) → is_some v ≡ true → (w : Value) × (v ≡ Some w)
some_is None e = cc
some_is (Some w) e = (w, refl)

set_or_there : (b : Bool) (w : Value) (v : Option Value) → is_some v ≡ true → is_some (cond b (Some w) v) ≡ true
set_or_there true w v there = refl
set_or_there false w v there = there

still_numbers : (s : Cells) (a : Name) (c : Cell) (w : Value) (es : List (Index × ℤ)) → AreNumbers s a es → AreNumbers (insert s c w) a es
still_numbers s a c w [] h = tt
still_numbers s a c w (e ∷ es) h = (
  ap is_some (get-apply cell_order (set_to c w ∷ []) s (Element a e.0)) ∙ set_or_there (eq_by_cmp cell_cmp (Element a e.0) c) w (get s (Element a e.0)) h.0,
  h.1,
  still_numbers s a c w es h.2,
)

pub numbers_kept : (s : Cells) (a : Name) (es : List (Index × ℤ)) → IsWellFormed s → AreNumbers s a es → IsWellFormed (apply (new_numbers a es) s)
numbers_kept s a [] h are = h
numbers_kept s a (e ∷ es) h are =
    let there = some_is (get s (Element a e.0)) are.0 in
    numbers_kept (insert s (Element a e.0) (Number e.1)) a es (element_set s a e.0 e.1 there.0 h there.1 are.1)
    (still_numbers s a (Element a e.0) (Number e.1) es are.2)

-- the same number at each index
pub same_number : (a : Name) (v : ℤ) (is : List Index) → new_numbers a (map (λ i. (i, v)) is) ≡ put_all (map (Element a) is) (Number v)
same_number a v [] = refl
same_number a v (i ∷ is) = ap (λ xs. set_to (Element a i) (Number v) ∷ xs) (same_number a v is)
