-- An element that becomes another one and a number more keeps a workbook well formed.
use Rattle.std.proofs.Common.{Option, Some, None, [], ◌∷◌, ℤ, ◌+ℤ◌, ◌∙◌}
use Rattle.wb_cells.specs.declared.cells.cell.Cell.TheVariants.{Object, In, Implicit, Element}
use Rattle.wb_cells.specs.declared.cells.kind.Kind.{Kind}
use Rattle.wb_cells.specs.declared.cells.value.Value.TheVariants.{Number}
use Rattle.wb_cells.specs.declared.cells.value.Value.{Value}
use Rattle.wb_cells.specs.declared.values.index.Index.{Index}
use Rattle.wb_cells.specs.Cells.{Name, Cells}
use Rattle.wb_cells.specs.WellFormed.{IsWellFormed}
use Rattle.selective_undo.specs.Edit.{write}
use Rattle.wb_edit.specs.Commands.{copy}
use Rattle.wb_edit.specs.Trees.{Tree, read, judged}
use Rattle.wb_edit.specs.Implicit.{has_implicit, parent_in, or_implicit, element_or_implicit}
use Rattle.wb_edit.specs.Numbers.{element_or_refusal, fits_integer, sum}
use Rattle.wb_edit.specs.Looks.{array_kind, is_there, fits, array_named, index_fits, element}
use Rattle.wb_edit.specs.Writes.{set_to}
use Rattle.wb_edit.proofs.Sums.{within_fits}
use Rattle.wb_edit.proofs.Kept.Set.{element_set}
use Rattle.wb_edit.proofs.Kept.Steps.{Keeps, keeps_read, keeps_judged, there_is}

-- an element or an implicit value that was read, and then more
keeps_number : (s : Cells) (b d : Name) (kind : Kind) (j : Index) (next : ℤ → Tree) → IsWellFormed s → ((x : ℤ) → Keeps (next x) s) →
    Keeps (element_or_implicit b d kind j next) s
keeps_number s b d kind j next h kept = keeps_read s (Element b j) (λ v. or_implicit b d kind j v next) (λ v _. by_case v)
  where
    by_case : (v : Option Value) → Keeps (or_implicit b d kind j v next) s
    by_case (Some v) = keeps_judged s (element_or_refusal (Some v)) next h (λ x _. kept x)
    by_case None =
        keeps_judged s (has_implicit kind) (λ z. read (Object d) (λ o. judged (parent_in o)
        (λ p. read (In p j) (λ v. judged (is_there v) (λ y. read (Implicit b) (λ x. judged (element_or_refusal x) next)))))) h (λ z _.
        keeps_read s (Object d) (λ o. judged (parent_in o) (λ p. read (In p j)
        (λ v. judged (is_there v) (λ y. read (Implicit b) (λ x. judged (element_or_refusal x) next))))) (λ o _.
        keeps_judged s (parent_in o) (λ p. read (In p j) (λ v. judged (is_there v) (λ y. read (Implicit b) (λ x. judged (element_or_refusal x) next)))) h
        (λ p _.
        keeps_read s (In p j) (λ v. judged (is_there v) (λ y. read (Implicit b) (λ x. judged (element_or_refusal x) next))) (λ v _.
        keeps_judged s (is_there v) (λ y. read (Implicit b) (λ x. judged (element_or_refusal x) next)) h (λ y _.
        keeps_read s (Implicit b) (λ x. judged (element_or_refusal x) next) (λ x _.
        keeps_judged s (element_or_refusal x) next h (λ n _. kept n)))))))

pub copy_kept : (s : Cells) (a : Name) (i : Index) (b : Name) (j : Index) (c : ℤ) → IsWellFormed s → Keeps (copy a i b j c) s
copy_kept s a i b j c h =
    let last : ℤ → Tree = λ y. write (set_to (Element a i) (Number y) ∷ []) in
    let added : ℤ → Tree = λ x. sum x c last in
    let elements : Name × Kind → Tree = λ source. element a i (λ z. element_or_implicit b source.0 source.1 j added) in
    let keys : Kind → Name × Kind → Tree = λ kind source. index_fits kind i (λ x. index_fits source.1 j (λ y. elements source)) in
    keeps_read s (Object a) (λ v. judged (array_kind v) (λ array. array_named b (λ source. keys array.1 source))) (λ v _.
    keeps_judged s (array_kind v) (λ array. array_named b (λ source. keys array.1 source)) h (λ array _.
    keeps_read s (Object b) (λ w. judged (array_kind w) (λ source. keys array.1 source)) (λ w _.
    keeps_judged s (array_kind w) (λ source. keys array.1 source) h (λ source _.
    keeps_judged s (fits array.1 i) (λ x. index_fits source.1 j (λ y. elements source)) h (λ x _.
    keeps_judged s (fits source.1 j) (λ y. elements source) h (λ y _.
    keeps_read s (Element a i) (λ old. judged (is_there old) (λ z. element_or_implicit b source.0 source.1 j added)) (λ old is.
    keeps_judged s (is_there old) (λ z. element_or_implicit b source.0 source.1 j added) h (λ z ok.
    keeps_number s b source.0 source.1 j added h (λ x.
    keeps_judged s (fits_integer (x +ℤ c)) last h (λ y within_64.
    let there = there_is old z ok in
    element_set s a i y there.0 h (is ∙ there.1) (within_fits (x +ℤ c) y within_64)))))))))))
