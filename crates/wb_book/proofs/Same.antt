-- What is kept are the cells that it agrees with.
use Rattle.std.proofs.Common.{◌≡◌, ℤ, Bool, true, false, cond, ◌&&◌, List, [], ◌∷◌, ◌++◌, Option, Some, None, is_some}
use Rattle.std.proofs.Common.{IsSome, refl, sym, ap, subst, ◌∙◌}
use Rattle.std.specs.declared.cmp.Ordering.{Ordering}
use Rattle.std.specs.declared.cmp.Ordering.TheVariants.{Less, Equal, Greater}
use Rattle.std.specs.BTreeMap.{BTreeMap}
use Rattle.std.specs.Cmp.{eq_by_cmp_equiv}
use Rattle.std.specs.Cmp.Lexicographic.{slice_cmp, nat_list_cmp_total}
use Rattle.std.specs.FinMap.{get}
use Rattle.std.specs.Option.{option_map}
use Rattle.std.specs.Ordering.{is_eq, nat_cmp, ordering_then}
use Rattle.selective_undo.specs.declared.Change.{Change}
use Rattle.selective_undo.specs.Changes.{applied, apply}
use Rattle.selective_undo.proofs.Changes.{same_states, get-put}
use Rattle.wb_cells.specs.declared.cells.cell.Cell.{Cell}
use Rattle.wb_cells.specs.declared.cells.cell.Cell.TheVariants.{Object, Shape, In, Member, Mapping, Use, Implicit, Element}
use Rattle.wb_cells.specs.declared.cells.value.Value.{Value}
use Rattle.wb_cells.specs.declared.cells.value.Value.TheVariants.{Number}
use Rattle.wb_cells.specs.declared.values.index.Index.{Index}
use Rattle.wb_cells.specs.contracts.values.index.IndexOrd.TheImpl.Laws as index_laws
use Rattle.wb_cells.specs.Cells.{Stored, Name, Cells, Changes, cell_order, index_cmp, is_same_name, is_same_index}
use Rattle.wb_cells.specs.WellFormed.{IsWellFormed, inside_of, ranges_in}
use Rattle.wb_book.specs.Joined.{is_stored, stored_in, element_in, answer}
use Rattle.wb_book.proofs.Joined.{IsKept, get-joined}
use Rattle.wb_book.specs.Kept.{Pieced, array_in, with_element, Agree}
use Rattle.wb_book.specs.Shelf.{cells_of}
use Rattle.wb_book.proofs.Written.{element_in-written, one_name, one_index}

-- the stored cells and the elements are those of well-formed cells: then what is kept are these cells
pub same_cells : (cells : Stored) (arrays : BTreeMap Name Pieced) (s : Cells) → IsKept cells.entries arrays.entries → IsWellFormed s →
    ((c : Cell) → is_stored c ≡ true → stored_in cells.entries c ≡ get s c) → Agree arrays.entries s → cells_of cells arrays ≡ s
same_cells cells arrays s kept formed stored agree = same_states cell_order _ _ λ c. get-joined cells.entries arrays.entries kept c ∙ by c
  where
    by : (c : Cell) → answer (stored_in cells.entries) (element_in arrays.entries) c ≡ get s c
    by (Object n) = stored (Object n) refl
    by (Shape n) = stored (Shape n) refl
    by (Member n i) = stored (Member n i) refl
    by (Mapping n) = stored (Mapping n) refl
    by (Use n m) = stored (Use n m) refl
    by (Implicit n) = stored (Implicit n) refl
    by (In d i) = ap (λ (o : Option Value). inside_of (ranges_in o) i) (stored (Shape d) refl) ∙ sym (formed.insides d i)
    by (Element a i) = agree a i

-- ---- one element more is set

both : (o r : Ordering) → is_eq (ordering_then o r) ≡ is_eq o && is_eq r
both Less r = refl
both Equal r = refl
both Greater r = refl

mapped : (b : Bool) (v : ℤ) (o : Option ℤ) (p : Option Value) → option_map Number o ≡ p → option_map Number (cond b (Some v) o) ≡ cond b (Some (Number v)) p
mapped true v o p e = refl
mapped false v o p e = e

pub agree_step : (es fs : List (Name × Pieced)) (s : Cells) (a : Name) (i : Index) (v : ℤ) → IsSome (element_in es a i) →
    ((b : Name) → array_in fs b ≡ cond (is_same_name a b) (with_element (array_in es b) i v) (array_in es b)) → Agree es s →
    Agree fs (applied (record { cell = Element a i; value = Some (Number v) }) s)
agree_step es fs s a i v there is agree b j =
    ap (option_map Number) (element_in-written es fs a b i j v there (is b))
    ∙ mapped (is_same_name a b && is_same_index i j) v (element_in es b j) (get s (Element b j)) (agree b j)
    ∙ ap (λ t. cond t (Some (Number v)) (get s (Element b j)))
    (rw ((eq_by_cmp_equiv nat_list_cmp_total).symm a b, (eq_by_cmp_equiv index_laws.total-law).symm i j) (sym (both (slice_cmp nat_cmp b a) (index_cmp j i))))
    ∙ sym (get-put cell_order (record { cell = Element a i; value = Some (Number v) }) s (Element b j))

pub apply-last : (xs : Changes) (x : Change Cell Value) (s : Cells) → apply (xs ++ x ∷ []) s ≡ applied x (apply xs s)
apply-last [] x s = refl
apply-last (y ∷ xs) x s = apply-last xs x (applied y s)

pub there_more : (es fs : List (Name × Pieced)) (a b : Name) (i j : Index) (v : ℤ) → IsSome (element_in es a i) →
    array_in fs b ≡ cond (is_same_name a b) (with_element (array_in es b) i v) (array_in es b) → is_some (element_in fs b j) ≡ is_some (element_in es b j)
there_more es fs a b i j v there is = ap is_some (element_in-written es fs a b i j v there is) ∙ by (is_same_name a b) (is_same_index i j) refl refl
  where
    by : (t u : Bool) → is_same_name a b ≡ t → is_same_index i j ≡ u → is_some (cond (t && u) (Some v) (element_in es b j)) ≡ is_some (element_in es b j)
    by false u e f = refl
    by true false e f = refl
    by true true e f = sym (subst (λ (k : Index). IsSome (element_in es b k)) (one_index i j f)
        (subst (λ (n : Name). IsSome (element_in es n i)) (one_name a b e) there))

pub lie_more : (o p : Option Pieced) (t : Bool) (i : Index) (v : ℤ) → p ≡ cond t (with_element o i v) o → option_map (λ x. x.1) p ≡ option_map (λ x. x.1) o
lie_more o p false i v e = ap (option_map (λ x. x.1)) e
lie_more None p true i v e = ap (option_map (λ x. x.1)) e
lie_more (Some x) p true i v e = ap (option_map (λ x. x.1)) e
