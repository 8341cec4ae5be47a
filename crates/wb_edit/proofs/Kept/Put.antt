-- A number for each of many indices keeps a workbook well formed.
use Rattle.std.proofs.Common.{◌≡◌, suc, true, List, [], ◌∷◌, map, length, is_some, ℤ, FitsSigned, arith}
use Rattle.std.specs.Int.{w64}
use Rattle.std.specs.FinMap.{get}
use Rattle.std.specs.List.{All, list_all, zip}
use Rattle.selective_undo.specs.Edit.{refuse, write}
use Rattle.wb_cells.specs.declared.cells.cell.Cell.TheVariants.{Object, Element}
use Rattle.wb_cells.specs.declared.cells.kind.Kind.{Kind}
use Rattle.wb_cells.specs.declared.values.index.Index.{Index}
use Rattle.wb_cells.specs.Cells.{Name, Cells}
use Rattle.wb_cells.specs.Shapes.{Range, indices}
use Rattle.wb_cells.specs.WellFormed.{IsWellFormed}
use Rattle.wb_edit.specs.declared.asked_numbers.AskedNumbers.{AskedNumbers}
use Rattle.wb_edit.specs.declared.asked_numbers.AskedNumbers.TheVariants.{Rectangle, Indices}
use Rattle.wb_cells.specs.declared.refusal.WhyRefused.TheVariants.{WrongKind}
use Rattle.wb_edit.specs.Commands.{number_cells, put_numbers, put}
use Rattle.wb_edit.specs.Looks.{array_kind}
use Rattle.wb_edit.specs.Rectangles.{of_rank, all_there, all_elements}
use Rattle.wb_edit.specs.Trees.{Tree, judged, plain}
use Rattle.wb_edit.specs.ValidNumbers.{AreAskedNumbers}
use Rattle.wb_edit.proofs.Kept.Fill.{keeps_all, found_there, first_and}
use Rattle.wb_edit.proofs.Kept.NewElements.{AreNumbers, numbers_kept}
use Rattle.wb_edit.proofs.Kept.Steps.{Keeps, keeps_read, keeps_judged}

each_at : (s : Cells) (a : Name) (is : List Index) (vs : List ℤ) → All (FitsSigned w64) vs →
    list_all is_some (map (get s) (map (Element a) is)) ≡ true → AreNumbers s a (zip is vs)
each_at s a [] vs within there = tt
each_at s a (i ∷ is) [] within there = tt
each_at s a (i ∷ is) (v ∷ vs) within there =
    let both = first_and (is_some (get s (Element a i))) (list_all is_some (map (get s) (map (Element a) is))) there in
    (both.0, within 0 v (omega arith), each_at s a is vs (λ k d low. within (suc k) d (omega (arith, low))) both.1)

numbers_put : (s : Cells) (a : Name) (kind : Kind) (on : List Range) (vs : List ℤ) → All (FitsSigned w64) vs → IsWellFormed s →
    Keeps (put_numbers a kind on vs) s
numbers_put s a kind on vs within h =
    let is : List Index = indices on in
    let last : Tree = write (number_cells a (zip is vs)) in
    keeps_judged s (of_rank (length on) kind) (λ x. all_elements a is (λ y. last)) h (λ x _.
    keeps_all s (map (Element a) is) (λ vs. judged (all_there vs) (λ y. last)) (
    keeps_judged s (all_there (map (get s) (map (Element a) is))) (λ y. last) h (λ y ok.
    numbers_kept s a (zip is vs) h (each_at s a is vs within (found_there _ y ok)))))

pub put_kept : (s : Cells) (a : Name) (asked : AskedNumbers) → AreAskedNumbers asked → IsWellFormed s → Keeps (put a asked) s
put_kept s a Indices valid h =
    let last : Name × Kind → Tree = λ over. refuse (plain WrongKind) in
    keeps_read s (Object a) (λ o. judged (array_kind o) last) (λ o is. keeps_judged s (array_kind o) last h (λ over found. h))
put_kept s a (Rectangle r) valid h =
    let last : Name × Kind → Tree = λ array. put_numbers a array.1 r.0 r.1 in
    keeps_read s (Object a) (λ o. judged (array_kind o) last) (λ o _.
    keeps_judged s (array_kind o) last h (λ array _. numbers_put s a array.1 r.0 r.1 valid.0 h))
