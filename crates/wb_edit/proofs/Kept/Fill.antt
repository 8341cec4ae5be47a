-- One number at many indices keeps a workbook well formed.
use Rattle.std.proofs.Common.{◌≡◌, Bool, true, false, ◌&&◌, List, [], ◌∷◌, map, length, Option, is_some, Ok, ℤ, FitsSigned, refl, sym, subst}
use Rattle.std.specs.Int.{w64}
use Rattle.std.specs.FinMap.{get}
use Rattle.std.specs.List.{list_all}
use Rattle.selective_undo.specs.Changes.{apply}
use Rattle.selective_undo.specs.Edit.{refuse, write, written}
use Rattle.wb_cells.specs.declared.cells.cell.Cell.{Cell}
use Rattle.wb_cells.specs.declared.cells.cell.Cell.TheVariants.{Object, Element}
use Rattle.wb_cells.specs.declared.cells.kind.Kind.{Kind}
use Rattle.wb_cells.specs.declared.cells.value.Value.{Value}
use Rattle.wb_cells.specs.declared.cells.value.Value.TheVariants.{Number}
use Rattle.wb_cells.specs.declared.values.index.Index.{Index}
use Rattle.wb_cells.specs.Cells.{Name, Cells}
use Rattle.wb_cells.specs.Shapes.{indices}
use Rattle.wb_cells.specs.WellFormed.{IsWellFormed}
use Rattle.wb_edit.specs.declared.asked_rectangle.AskedRectangle.{AskedRectangle}
use Rattle.wb_edit.specs.declared.asked_rectangle.AskedRectangle.TheVariants.{Ranges, Indices}
use Rattle.wb_cells.specs.declared.refusal.WhyRefused.TheVariants.{WrongKind}
use Rattle.wb_edit.specs.Commands.{fill}
use Rattle.wb_edit.specs.Trees.{Tree, judged, plain}
use Rattle.wb_edit.specs.Rectangles.{of_rank, over_rectangle, there_if, all_there, all_elements, read_all}
use Rattle.wb_edit.specs.Looks.{array_kind}
use Rattle.wb_edit.specs.Writes.{put_all}
use Rattle.wb_edit.proofs.Rectangles.{gives_all}
use Rattle.wb_edit.proofs.Kept.NewElements.{AreNumbers, numbers_kept, same_number}
use Rattle.wb_edit.proofs.Kept.Steps.{Keeps, keeps_read, keeps_judged}

-- a look at many cells goes on with what each holds
pub keeps_all : (s : Cells) (cs : List Cell) (next : List (Option Value) → Tree) → Keeps (next (map (get s) cs)) s → Keeps (read_all cs next) s
keeps_all s cs next kept = subst (λ o. IsWellFormed (apply (written o) s)) (sym ((gives_all s cs [] next).0)) kept

pub found_there : (b : Bool) (x : Unit {0}) → there_if b ≡ Ok x → b ≡ true
found_there true x e = refl
found_there false x e = cc

pub first_and : (a b : Bool) → (a && b) ≡ true → (a ≡ true) × (b ≡ true)
first_and true b e = (refl, e)
first_and false b e = cc

at_all : (s : Cells) (a : Name) (v : ℤ) (is : List Index) → FitsSigned w64 v → list_all is_some (map (get s) (map (Element a) is)) ≡ true →
    AreNumbers s a (map (λ i. (i, v)) is)
at_all s a v [] within there = tt
at_all s a v (i ∷ is) within there =
    let both = first_and (is_some (get s (Element a i))) (list_all is_some (map (get s) (map (Element a) is))) there in
    (both.0, within, at_all s a v is within both.1)

pub fill_kept : (s : Cells) (a : Name) (asked : AskedRectangle) (v : ℤ) → FitsSigned w64 v → IsWellFormed s → Keeps (fill a asked v) s
fill_kept s a Indices v within h =
    let last : Name × Kind → Tree = λ over. refuse (plain WrongKind) in
    keeps_read s (Object a) (λ o. judged (array_kind o) last) (λ o is. keeps_judged s (array_kind o) last h (λ over found. h))
fill_kept s a (Ranges on) v within h =
    let is : List Index = indices on in
    let last : Tree = write (put_all (map (Element a) is) (Number v)) in
    keeps_read s (Object a) (λ o. judged (array_kind o) (λ array. over_rectangle (length on) array.1 (λ x. all_elements a is (λ y. last)))) (λ o _.
    keeps_judged s (array_kind o) (λ array. over_rectangle (length on) array.1 (λ x. all_elements a is (λ y. last))) h (λ array _.
    keeps_judged s (of_rank (length on) array.1) (λ x. all_elements a is (λ y. last)) h (λ x _.
    keeps_all s (map (Element a) is) (λ vs. judged (all_there vs) (λ y. last)) (
    keeps_judged s (all_there (map (get s) (map (Element a) is))) (λ y. last) h (λ y ok.
    subst (λ xs. IsWellFormed (apply xs s)) (same_number a v is) (
    numbers_kept s a (map (λ i. (i, v)) is) h (at_all s a v is within (found_there _ y ok))))))))
