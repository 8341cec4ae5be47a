-- New ranges of a rectangular domain keep a workbook well formed, where no sparse domain in it loses an index.
use Rattle.std.proofs.Common.{◌≡◌, ℕ, ℤ, Bool, true, false, not, cond, ◌&&◌, List, ◌∷◌, Option, Some, None, refl, sym, ap, subst, ◌∙◌}
use Rattle.std.specs.Ordering.{eq_by_cmp}
use Rattle.std.specs.FinMap.{get}
use Rattle.selective_undo.specs.Changes.{apply}
use Rattle.wb_cells.specs.declared.cells.cell.Cell.{Cell}
use Rattle.wb_cells.specs.declared.cells.cell.Cell.TheVariants.{Object, Shape, In, Member, Mapping, Use, Implicit, Element}
use Rattle.wb_cells.specs.declared.cells.kind.DomainKind.TheVariants.{Rectangular, Sparse}
use Rattle.wb_cells.specs.declared.cells.kind.Kind.TheVariants.{Rectangular as OverRectangular}
use Rattle.wb_cells.specs.declared.cells.value.Binding.TheVariants.{Sparse as BoundSparse}
use Rattle.wb_cells.specs.declared.cells.value.Value.{Value}
use Rattle.wb_cells.specs.declared.cells.value.Value.TheVariants.{Ranges, Present, Bound}
use Rattle.wb_cells.specs.declared.values.index.Index.{Index}
use Rattle.wb_cells.specs.Cells.{Name, Cells, Changes, cell_cmp, cell_order, is_same_name}
use Rattle.wb_cells.specs.Shapes.{Range, indices}
use Rattle.wb_cells.specs.WellFormed.{IsWellFormed, IsRectangle, IsShape, has, present_if, domain_in, ranges_in, inside_of, use_of, domain_at}
use Rattle.wb_reshape.specs.Laws.{AreFills, LosesNone, KeepsRectangles}
use Rattle.wb_reshape.specs.Resized.{without, resized_cells}
use Rattle.wb_reshape.specs.Writes.{set_to}
use Rattle.wb_reshape.proofs.Gets.{after, get-apply}
use Rattle.wb_reshape.proofs.Exchanged.{exchanged_at, neither-resized}
use Rattle.wb_reshape.proofs.Resized.{is_shape, IsResized, is_resized, elements_kept}
use Rattle.wb_reshape.proofs.Without.{has-without}
use Rattle.wb_reshape.proofs.States.{same_name, itself, domain_in-is, IsObject-same, IsMember-kept}

-- an index is present afterwards exactly where it is among the new ones
exchanged_present : (in_new in_old : Bool) → cond (in_new && not in_old) (Some Present) (cond (in_old && not in_new) None (present_if in_old)) ≡ present_if
    in_new
exchanged_present true true = refl
exchanged_present true false = refl
exchanged_present false true = refl
exchanged_present false false = refl

new_present : (old new : List Range) (i : Index) → exchanged_at (without (indices new) (indices old)) (without (indices old) (indices new)) Present i
    (present_if (has (indices old) i)) ≡ present_if (has (indices new) i)
new_present old new i = rw (has-without (indices new) (indices old) i, has-without (indices old) (indices new) i)
    (exchanged_present (has (indices new) i) (has (indices old) i))

-- a sparse domain is bound to its parent
parent_bound : (s : Cells) → IsWellFormed s → (d e : Name) (rank : ℕ) → domain_at s e ≡ Some (Sparse d rank) → get s (Use d e) ≡ Some (Bound BoundSparse)
parent_bound s h d e rank there =
    h.uses d e
    ∙ ap (use_of d) (domain_in-is (get s (Object e)) (Sparse d rank) there)
    ∙ ap (λ b. elim b as (λ _. Option Value) [ true ↦ Some (Bound BoundSparse) | false ↦ None ]) (itself d)

rectangle_resized : (s t : Cells) (d : Name) (rank : ℕ) (fills : List (Name × ℤ)) (old new : List Range)
    → IsWellFormed s → domain_at s d ≡ Some (Rectangular rank) → get s (Shape d) ≡ Some (Ranges old) → IsRectangle rank new → AreFills s d fills →
    LosesNone s d (indices new)
    → ((n : Name) → get t (Shape n) ≡ cond (is_same_name n d) (Some (Ranges new)) (get s (Shape n)))
    → IsResized s t (OverRectangular rank) d fills (without (indices new) (indices old)) (without (indices old) (indices new)) → IsWellFormed t
rectangle_resized s t d rank fills old new h there was whole are loses shape k =
    let leaving : List Index = without (indices new) (indices old) in
    let coming : List Index = without (indices old) (indices new) in
    let over : (n : Name) → is_same_name n d ≡ true → domain_at s n ≡ Some (Rectangular rank) = λ n same. ap (domain_at s) (same_name n d same) ∙ there in
    let inside : (n : Name) (i : Index) → get t (In n i) ≡ cond (is_same_name n d) (present_if (has (indices new) i)) (get s (In n i)) = λ n i.
    k.inside n i ∙ elim (is_same_name n d) as (λ b. is_same_name n d ≡ b →
    cond b (exchanged_at leaving coming Present i (get s (In n i))) (get s (In n i)) ≡ cond b (present_if (has (indices new) i)) (get s (In n i))) [
      | true ↦ λ same. ap (exchanged_at leaving coming Present i) (h.insides n i ∙
          ap (λ o. inside_of (ranges_in o) i) (ap (λ m. get s (Shape m)) (same_name n d same) ∙ was)) ∙ new_present old new i
      | false ↦ λ same. refl
    ] refl in
    let stays : (n : Name) (i : Index) (parent : Name) (other : ℕ) → domain_at s n ≡ Some (Sparse parent other) → get s (Member n i) ≡ Some Present →
    get s (In parent i) ≡ Some Present → get t (In parent i) ≡ Some Present = λ n i parent other sparse present was_in.
    rw (inside parent i) (elim (is_same_name parent d) as (λ b. is_same_name parent d ≡ b →
    cond b (present_if (has (indices new) i)) (get s (In parent i)) ≡ Some Present) [
      | true ↦ λ same.
          let bound : get s (Use d n) ≡ Some (Bound BoundSparse) = parent_bound s h d n other
          (sparse ∙ ap (λ p. Some (Sparse p other)) (same_name parent d same)) in
          ap present_if (loses n i bound present)
      | false ↦ λ same. was_in
    ] refl) in
    record {
      names = λ n v is. h.names n v (sym (k.object n) ∙ is);
      objects = λ n v is. IsObject-same s t (λ e other there. ap domain_in (k.object e) ∙ there) v (h.objects n v (sym (k.object n) ∙ is));
      shapes = λ n. rw (k.object n, shape n) (elim (is_same_name n d) as
          (λ b. is_same_name n d ≡ b → IsShape (domain_at s n) (cond b (Some (Ranges new)) (get s (Shape n)))) [
            | true ↦ λ same. subst (λ o. IsShape o (Some (Ranges new))) (sym (over n same)) (new, refl, whole)
            | false ↦ λ same. h.shapes n
          ] refl);
      insides = λ n i. rw (inside n i, shape n) (elim (is_same_name n d) as
          (λ b. cond b (present_if (has (indices new) i)) (get s (In n i)) ≡ inside_of (ranges_in (cond b (Some (Ranges new)) (get s (Shape n)))) i) [
            | true ↦ refl
            | false ↦ h.insides n i
          ]);
      members = λ n i. rw (k.object n, k.member n i) (IsMember-kept s t (domain_at s n) i (get s (Member n i)) (stays n i) (h.members n i));
      mappings = λ n. rw (k.object n, k.mapping n) (h.mappings n);
      uses = λ e n. rw (k.used e n, k.object n) (h.uses e n);
      implicits = λ a. rw (k.object a, k.implicit a) (h.implicits a);
      elements = elements_kept s t d (Rectangular rank) fills leaving coming h there are k;
    }

no_shape_cell : (c : Cell) (d : Name) → is_shape c ≡ false → eq_by_cmp cell_cmp c (Shape d) ≡ false
no_shape_cell (Shape n) d other = cc
no_shape_cell (Object n) d other = refl
no_shape_cell (In n i) d other = refl
no_shape_cell (Member n i) d other = refl
no_shape_cell (Mapping n) d other = refl
no_shape_cell (Use e n) d other = refl
no_shape_cell (Implicit n) d other = refl
no_shape_cell (Element a i) d other = refl

pub keeps_rectangles : KeepsRectangles
keeps_rectangles s d rank fills old new h there was whole are loses =
    let leaving : List Index = without (indices new) (indices old) in
    let coming : List Index = without (indices old) (indices new) in
    let xs : Changes = resized_cells (OverRectangular rank) d fills leaving coming in
    let ys : Changes = set_to (Shape d) (Ranges new) ∷ xs in
    let at : (c : Cell) → get (apply ys s) c ≡ after cell_cmp xs c (cond (eq_by_cmp cell_cmp c (Shape d)) (Some (Ranges new)) (get s c)) =
    get-apply cell_order ys s in
    rectangle_resized s (apply ys s) d rank fills old new h there was whole are loses
    (λ n. at (Shape n) ∙ neither-resized leaving coming (OverRectangular rank) d fills (Shape n)
    (cond (is_same_name n d) (Some (Ranges new)) (get s (Shape n))) (λ a i. refl) (λ i. refl) (λ i. refl))
    (is_resized s (apply ys s) (OverRectangular rank) d fills leaving coming
    (λ c other. at c ∙ ap (λ b. after cell_cmp xs c (cond b (Some (Ranges new)) (get s c))) (no_shape_cell c d other)))
