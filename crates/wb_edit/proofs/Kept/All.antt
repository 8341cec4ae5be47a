-- Elements that become what two arrays make keep a workbook well formed.
use Rattle.std.proofs.Common.{◌≡◌, Bool, true, false, ◌&&◌, List, [], ◌∷◌, is_some, ℤ, refl, subst}
use Rattle.std.specs.FinMap.{get}
use Rattle.std.specs.List.{AllByRecursion, list_all}
use Rattle.selective_undo.specs.Edit.{write}
use Rattle.wb_cells.specs.declared.cells.cell.Cell.TheVariants.{Object, Element}
use Rattle.wb_cells.specs.declared.values.index.Index.{Index}
use Rattle.wb_cells.specs.Cells.{Name, Cells}
use Rattle.wb_cells.specs.Readers as readers
use Rattle.wb_cells.specs.WellFormed.{IsWellFormed}
use Rattle.wb_edit.specs.declared.operation.Operation.{Operation}
use Rattle.wb_edit.specs.Commands.{all, number_cells}
use Rattle.wb_edit.specs.Elements.{elements, same_domain, over_one_domain, value_at, result_of, results, results_within, all_within}
use Rattle.wb_edit.specs.Trees.{Tree, judged}
use Rattle.wb_edit.specs.Numbers.{is_i64}
use Rattle.wb_edit.specs.Looks.{array_kind, array_named}
use Rattle.wb_edit.proofs.Elements.{elements_there}
use Rattle.wb_edit.proofs.Kept.NewElements.{AreNumbers, numbers_kept}
use Rattle.wb_edit.proofs.Kept.Steps.{Keeps, keeps_read, keeps_judged}
use Rattle.wb_edit.proofs.SideBySide.{all_kept_is}
use Rattle.wb_edit.proofs.Sums.{is_i64-fits}

first_and : (a b : Bool) → (a && b) ≡ true → (a ≡ true) × (b ≡ true)
first_and true b e = (refl, e)
first_and false b e = cc

results_are_numbers : (s : Cells) (a : Name) (how : Operation) (xs ys : List (Index × ℤ)) → AllByRecursion (λ e. is_some (get s (Element a e.0)) ≡ true) xs →
    list_all (λ z. is_i64 z.1) (results how xs ys) ≡ true → AreNumbers s a (results how xs ys)
results_are_numbers s a how [] ys there within = tt
results_are_numbers s a how (x ∷ xs) ys there within =
    let z : ℤ = result_of how x.1 (value_at ys x.0) in
    let parts = first_and (is_i64 z) (list_all (λ e. is_i64 e.1) (results how xs ys)) within in
    (there.0, is_i64-fits z parts.0, results_are_numbers s a how xs ys there.1 parts.1)

pub all_kept : (s : Cells) (a : Name) (how : Operation) (b : Name) → IsWellFormed s → Keeps (all a how b) s
all_kept s a how b h =
    let xs : List (Index × ℤ) = readers.elements s a in
    let ys : List (Index × ℤ) = readers.elements s b in
    let last : List (Index × ℤ) → Tree = λ zs. write (number_cells a zs) in
    let looks : Tree = elements a (λ xs. elements b (λ ys. results_within how xs ys last)) in
    keeps_read s (Object a) (λ o. judged (array_kind o) (λ array. array_named b (λ source. over_one_domain array.0 source.0 (λ x. looks)))) (λ o _.
    keeps_judged s (array_kind o) (λ array. array_named b (λ source. over_one_domain array.0 source.0 (λ x. looks))) h (λ array _.
    keeps_read s (Object b) (λ w. judged (array_kind w) (λ source. over_one_domain array.0 source.0 (λ x. looks))) (λ w _.
    keeps_judged s (array_kind w) (λ source. over_one_domain array.0 source.0 (λ x. looks)) h (λ source _.
    keeps_judged s (same_domain array.0 source.0) (λ x. looks) h (λ x _.
    keeps_judged s (all_within (results how xs ys)) last h (λ zs ok.
    let kept = all_kept_is (list_all (λ z. is_i64 z.1) (results how xs ys)) (results how xs ys) zs ok in
    numbers_kept s a zs h (subst (λ es. AreNumbers s a es) kept.1 (results_are_numbers s a how xs ys (elements_there s a) kept.0))))))))
