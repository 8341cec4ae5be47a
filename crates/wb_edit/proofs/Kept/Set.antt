-- A new element keeps a workbook well formed.
use Rattle.std.proofs.Common.{◌≡◌, Bool, true, false, cond, [], ◌∷◌, Option, Some, ℤ, FitsSigned, refl, sym, ap, ◌∙◌}
use Rattle.std.proofs.lemmas.Option.{none-some}
use Rattle.std.specs.Int.{w64}
use Rattle.std.specs.Ordering.{eq_by_cmp}
use Rattle.std.specs.FinMap.{get, insert}
use Rattle.selective_undo.specs.Edit.{write}
use Rattle.wb_cells.specs.declared.cells.cell.Cell.{Cell}
use Rattle.wb_cells.specs.declared.cells.cell.Cell.TheVariants.{Object, Shape, In, Member, Mapping, Use, Implicit, Element}
use Rattle.wb_cells.specs.declared.cells.value.Value.{Value}
use Rattle.wb_cells.specs.declared.cells.value.Value.TheVariants.{Number}
use Rattle.wb_cells.specs.declared.values.index.Index.{Index}
use Rattle.wb_cells.specs.Cells.{Name, Cells, cell_cmp, cell_order}
use Rattle.wb_cells.specs.WellFormed.{IsWellFormed, IsElement, IsNumber, domain_at, array_at, is_index_of_array}
use Rattle.wb_edit.specs.Commands.{set}
use Rattle.wb_edit.specs.Trees.{Tree, judged}
use Rattle.wb_edit.specs.Looks.{array_kind, is_there, fits, index_fits, element}
use Rattle.wb_edit.specs.Writes.{set_to}
use Rattle.wb_reshape.proofs.Gets.{same_key, get-apply}
use Rattle.wb_reshape.proofs.States.{IsObject-same, IsMember-same, index_cell_same, indices_same}
use Rattle.wb_edit.proofs.Kept.Steps.{Keeps, keeps_read, keeps_judged, there_is}

-- where an element is there, it is at an index of the array, and so may be another number
still_element : (b : Bool) (old new : Option Value) (x : Value) → old ≡ Some x → IsElement b old → IsNumber new → IsElement b new
still_element true old new x there h n = n
still_element false old new x there h n = absurd (none-some x (sym h ∙ there))

-- one that is there is set
pub element_set : (s : Cells) (a : Name) (i : Index) (v : ℤ) (x : Value) → IsWellFormed s → get s (Element a i) ≡ Some x → FitsSigned w64 v →
    IsWellFormed (insert s (Element a i) (Number v))
element_set s a i v x h there within =
    let t : Cells = insert s (Element a i) (Number v) in
    let at : (c : Cell) → get t c ≡ cond (eq_by_cmp cell_cmp c (Element a i)) (Some (Number v)) (get s c) =
    get-apply cell_order (set_to (Element a i) (Number v) ∷ []) s in
    let object : (n : Name) → get t (Object n) ≡ get s (Object n) = λ n. at (Object n) in
    let inside : (d : Name) (j : Index) → get t (In d j) ≡ get s (In d j) = λ d j. at (In d j) in
    let member : (d : Name) (j : Index) → get t (Member d j) ≡ get s (Member d j) = λ d j. at (Member d j) in
    record {
      names = λ n w e. h.names n w (sym (object n) ∙ e);
      objects = λ n w e. IsObject-same s t (λ d kind old. rw (object d) old) w (h.objects n w (sym (object n) ∙ e));
      shapes = λ d. rw (object d, at (Shape d)) (h.shapes d);
      insides = λ d j. rw (inside d j, at (Shape d)) (h.insides d j);
      members = λ d j. rw (object d, member d j) (IsMember-same s t (λ e k there. inside e k ∙ there) (domain_at s d) j (get s (Member d j)) (h.members d j));
      mappings = λ d. rw (object d, at (Mapping d)) (h.mappings d);
      uses = λ d n. rw (at (Use d n), object n) (h.uses d n);
      implicits = λ b. rw (object b, at (Implicit b)) (h.implicits b);
      elements = λ b j. rw (
        object b,
        indices_same s t (array_at s b) j (λ d kind is. index_cell_same s t kind d j (inside d j) (member d j)),
        at (Element b j),
      ) (
          elim (eq_by_cmp cell_cmp (Element b j) (Element a i)) as (λ k. eq_by_cmp cell_cmp (Element b j) (Element a i) ≡ k →
          IsElement (is_index_of_array s (array_at s b) j) (cond k (Some (Number v)) (get s (Element b j)))) [
            | true ↦ λ e. still_element _ (get s (Element b j)) _ x (ap (get s) (same_key cell_order (Element b j) (Element a i) e) ∙ there) (h.elements b j)
                (v, refl, within)
            | false ↦ λ e. h.elements b j
          ] refl);
    }

pub set_kept : (s : Cells) (a : Name) (i : Index) (v : ℤ) → FitsSigned w64 v → IsWellFormed s → Keeps (set a i v) s
set_kept s a i v within h =
    let last : Tree = write (set_to (Element a i) (Number v) ∷ []) in
    keeps_read s (Object a) (λ o. judged (array_kind o) (λ array. index_fits array.1 i (λ x. element a i (λ y. last)))) (λ o _.
    keeps_judged s (array_kind o) (λ array. index_fits array.1 i (λ x. element a i (λ y. last))) h (λ array _.
    keeps_judged s (fits array.1 i) (λ x. element a i (λ y. last)) h (λ x _.
    keeps_read s (Element a i) (λ old. judged (is_there old) (λ y. last)) (λ old is.
    keeps_judged s (is_there old) (λ y. last) h (λ y ok.
    let there = there_is old y ok in
    element_set s a i v there.0 h (is ∙ there.1) within)))))
