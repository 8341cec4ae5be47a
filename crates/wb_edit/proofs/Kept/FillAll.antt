-- One number as every element of an array keeps a workbook well formed.
use Rattle.std.proofs.Common.{◌≡◌, true, List, [], ◌∷◌, map, is_some, ℤ, FitsSigned, subst}
use Rattle.std.specs.Int.{w64}
use Rattle.std.specs.FinMap.{get}
use Rattle.std.specs.List.{AllByRecursion}
use Rattle.std.specs.Map.{keys_of}
use Rattle.selective_undo.specs.Changes.{apply}
use Rattle.selective_undo.specs.Edit.{write}
use Rattle.wb_cells.specs.declared.cells.cell.Cell.TheVariants.{Object, Element}
use Rattle.wb_cells.specs.declared.cells.value.Value.TheVariants.{Number}
use Rattle.wb_cells.specs.declared.values.index.Index.{Index}
use Rattle.wb_cells.specs.Cells.{Name, Cells}
use Rattle.wb_cells.specs.Readers as readers
use Rattle.wb_cells.specs.WellFormed.{IsWellFormed}
use Rattle.wb_edit.specs.Commands.{fill_all}
use Rattle.wb_edit.specs.Elements.{elements}
use Rattle.wb_edit.specs.Trees.{Tree, judged}
use Rattle.wb_edit.specs.Looks.{array_kind}
use Rattle.wb_edit.specs.Writes.{put_all}
use Rattle.wb_edit.proofs.Elements.{elements_there}
use Rattle.wb_edit.proofs.Kept.NewElements.{AreNumbers, numbers_kept, same_number}
use Rattle.wb_edit.proofs.Kept.Steps.{Keeps, keeps_read, keeps_judged}

one_number : (s : Cells) (a : Name) (v : ℤ) (es : List (Index × ℤ)) → FitsSigned w64 v → AllByRecursion (λ e. is_some (get s (Element a e.0)) ≡ true) es →
    AreNumbers s a (map (λ i. (i, v)) (keys_of es))
one_number s a v [] within there = tt
one_number s a v (e ∷ es) within there = (there.0, within, one_number s a v es within there.1)

pub fill_all_kept : (s : Cells) (a : Name) (v : ℤ) → FitsSigned w64 v → IsWellFormed s → Keeps (fill_all a v) s
fill_all_kept s a v within h =
    let es : List (Index × ℤ) = readers.elements s a in
    let last : Tree = elements a (λ seen. write (put_all (map (Element a) (keys_of seen)) (Number v))) in
    keeps_read s (Object a) (λ o. judged (array_kind o) (λ array. last)) (λ o _.
    keeps_judged s (array_kind o) (λ array. last) h (λ array _.
    subst (λ xs. IsWellFormed (apply xs s)) (same_number a v (keys_of es)) (
    numbers_kept s a (map (λ i. (i, v)) (keys_of es)) h (one_number s a v es within (elements_there s a)))))
