-- Elements of an array were set in place.
use Rattle.std.proofs.Common.{◌≡◌, ℤ, Bool, true, false, cond, ◌&&◌, List, [], ◌∷◌, Option, Some, None, is_some, IsSome}
use Rattle.std.proofs.Common.{refl, sym, ap, subst, ◌∙◌}
use Rattle.std.specs.List.{list_all}
use Rattle.std.specs.Ordering.{eq_by_cmp}
use Rattle.std.specs.BTreeMap.{BTreeMap}
use Rattle.std.specs.Cmp.Lexicographic.{slice_cmp}
use Rattle.std.specs.FinMap.{get}
use Rattle.std.specs.List.Sorted.{IsStrictlySortedBy}
use Rattle.std.specs.Map.{keys_of}
use Rattle.std.specs.Option.{option_map}
use Rattle.std.specs.Ordering.{nat_cmp}
use Rattle.selective_undo.specs.declared.Change.{Change}
use Rattle.selective_undo.specs.Changes.{applied, apply, changes}
use Rattle.selective_undo.proofs.Changes.{apply_keeps}
use Rattle.wb_cells.specs.declared.cells.cell.Cell.{Cell}
use Rattle.wb_cells.specs.declared.cells.cell.Cell.TheVariants.{Object, Shape, In, Member, Mapping, Use, Implicit, Element}
use Rattle.wb_cells.specs.declared.cells.value.Value.{Value}
use Rattle.wb_cells.specs.declared.cells.value.Value.TheVariants.{Domain, Array, Ranges, Mapping as mapping_value, Present, Bound, Number}
use Rattle.wb_cells.specs.declared.values.index.Index.{Index}
use Rattle.wb_cells.specs.declared.cells.kind.DomainKind.{DomainKind}
use Rattle.wb_cells.specs.declared.cells.kind.DomainKind.TheVariants.{Rectangular, Sparse, Associative}
use Rattle.wb_cells.specs.declared.cells.kind.KeyType.TheVariants.{Int, Text}
use Rattle.wb_cells.specs.declared.cells.kind.Kind.{Kind}
use Rattle.wb_cells.specs.Locales.{mapping_in}
use Rattle.wb_cells.specs.Cells.{Stored, Name, Cells, Changes, cell_cmp, cell_order, is_same_name}
use Rattle.wb_cells.specs.WellFormed.{IsWellFormed, array_at, array_in as object_in, domain_in, domain_at}
use Rattle.wb_book.specs.Joined.{is_stored, stored_in, element_in}
use Rattle.wb_book.proofs.Joined.{IsKept}
use Rattle.wb_book.specs.Kept.{Pieced, array_in, with_element, Agree, number_in, sets_at, is_set}
use Rattle.wb_book.specs.Shelf.{cells_of, IsShelf, lies_by, mapping_of}
use Rattle.wb_book.proofs.Kept.{get-cells_of}
use Rattle.wb_book.proofs.Same.{same_cells, agree_step}
use Rattle.wb_book.proofs.Written.{one_cell as equal_cells}

-- ---- no change of an element changes a stored cell

pub differ : (a b : Bool) → a ≡ true → b ≡ false → a ≡ b → (t : Bool) → t ≡ false
differ a b p q r t = cc

pub stored_apart : (c x : Cell) → is_stored c ≡ true → is_stored x ≡ false → eq_by_cmp cell_cmp c x ≡ false
stored_apart c x st apart = by (eq_by_cmp cell_cmp c x) refl
  where
    by : (t : Bool) → eq_by_cmp cell_cmp c x ≡ t → t ≡ false
    by false e = refl
    by true e = differ (is_stored c) (is_stored x) st apart (ap is_stored (equal_cells c x e)) true

no_stored : (element : Name → Index → Option ℤ) (c : Cell) (v : Option Value) → sets_at element c v ≡ true → is_stored c ≡ false
no_stored element (Object n) v set = cc
no_stored element (Shape n) v set = cc
no_stored element (In n i) v set = refl
no_stored element (Member n i) v set = cc
no_stored element (Mapping n) v set = cc
no_stored element (Use n m) v set = cc
no_stored element (Implicit n) v set = cc
no_stored element (Element n i) v set = refl

pub both_true : (a b : Bool) → a && b ≡ true → (a ≡ true) × (b ≡ true)
both_true true b e = (refl, e)
both_true false b e = cc

not_changed : (element : Name → Index → Option ℤ) (xs : Changes) (c : Cell) → is_stored c ≡ true → list_all (is_set element) xs ≡ true →
    changes cell_cmp xs c ≡ false
not_changed element [] c st set = refl
not_changed element (x ∷ xs) c st set =
    let parts = both_true (is_set element x) (list_all (is_set element) xs) set in
    rw (stored_apart c x.cell st (no_stored element x.cell x.value parts.0)) (not_changed element xs c st parts.1)

-- ---- one element is set

-- a change of an element sets it to a number, and it is there
pub element_set : (element : Name → Index → Option ℤ) (x : Change Cell Value) (a : Name) (i : Index) → x.cell ≡ Element a i → is_set element x ≡ true →
    (is_some (number_in x.value) ≡ true) × IsSome (element a i)
element_set element x a i cell set =
    both_true (is_some (number_in x.value)) (is_some (element a i)) (ap (λ (c : Cell). sets_at element c x.value) (sym cell) ∙ set)

pub same_test : (element other : Name → Index → Option ℤ) (c : Cell) (v : Option Value) →
    ((b : Name) (i : Index) → is_some (other b i) ≡ is_some (element b i)) → sets_at other c v ≡ sets_at element c v
same_test element other (Element a i) v same = ap (λ (t : Bool). is_some (number_in v) && t) (same a i)
same_test element other (Object n) v same = refl
same_test element other (Shape n) v same = refl
same_test element other (In n i) v same = refl
same_test element other (Member n i) v same = refl
same_test element other (Mapping n) v same = refl
same_test element other (Use n m) v same = refl
same_test element other (Implicit n) v same = refl

number_is : (o : Option Value) (v : ℤ) → number_in o ≡ Some v → o ≡ Some (Number v)
number_is None v e = cc
number_is (Some (Number z)) v e = ap (option_map Number) e
number_is (Some (Domain k)) v e = cc
number_is (Some (Array n k)) v e = cc
number_is (Some (Ranges rs)) v e = cc
number_is (Some (mapping_value m)) v e = cc
number_is (Some Present) v e = cc
number_is (Some (Bound k)) v e = cc

pub agree_set : (es fs : List (Name × Pieced)) (s : Cells) (x : Change Cell Value) (a : Name) (i : Index) (v : ℤ) → x.cell ≡ Element a i →
    number_in x.value ≡ Some v →
    IsSome (element_in es a i) → ((b : Name) → array_in fs b ≡ cond (is_same_name a b) (with_element (array_in es b) i v) (array_in es b)) →
    Agree es s → Agree fs (applied x s)
agree_set es fs s x a i v cell number there made agree =
    let value : x.value ≡ Some (Number v) = number_is x.value v number in
    let is : x ≡ record { cell = Element a i; value = Some (Number v) } = λ k. record { cell = cell k; value = value k } in
    subst (λ (y : Change Cell Value). Agree fs (applied y s)) (sym is) (agree_step es fs s a i v there made agree)

-- ---- what is kept afterwards

is_kept : (cells : Stored) (arrays fresh : BTreeMap Name Pieced) → IsShelf cells arrays → keys_of fresh.entries ≡ keys_of arrays.entries →
    IsKept cells.entries fresh.entries
is_kept cells arrays fresh kept names = record {
  stored = kept.stored;
  ascending = kept.ascending;
  by_name = subst (λ (ns : List Name). IsStrictlySortedBy (slice_cmp nat_cmp) ns) (sym names) kept.by_name;
}

pub stored_there : (cells : Stored) (arrays : BTreeMap Name Pieced) → IsShelf cells arrays → (c : Cell) → is_stored c ≡ true →
    stored_in cells.entries c ≡ get (cells_of cells arrays) c
stored_there cells arrays kept (Object n) st = sym (get-cells_of cells arrays kept (Object n))
stored_there cells arrays kept (Shape n) st = sym (get-cells_of cells arrays kept (Shape n))
stored_there cells arrays kept (In n i) st = cc
stored_there cells arrays kept (Member n i) st = sym (get-cells_of cells arrays kept (Member n i))
stored_there cells arrays kept (Mapping n) st = sym (get-cells_of cells arrays kept (Mapping n))
stored_there cells arrays kept (Use n m) st = sym (get-cells_of cells arrays kept (Use n m))
stored_there cells arrays kept (Implicit n) st = sym (get-cells_of cells arrays kept (Implicit n))
stored_there cells arrays kept (Element n i) st = cc

-- how an array lies is told by stored cells
alike_in : (s t : Cells) → ((c : Cell) → is_stored c ≡ true → get s c ≡ get t c) → (d : Name) (k : Option DomainKind) → mapping_of s d k ≡ mapping_of t d k
alike_in s t same d None = refl
alike_in s t same d (Some (Rectangular rank)) = ap (λ (o : Option Value). option_map (λ m. (m, rank)) (mapping_in o)) (same (Mapping d) refl)
alike_in s t same d (Some (Sparse parent rank)) = ap (λ (o : Option Value). option_map (λ m. (m, rank)) (mapping_in o)) (same (Mapping parent) refl)
alike_in s t same d (Some (Associative Int)) = refl
alike_in s t same d (Some (Associative Text)) = refl

alike_at : (s t : Cells) → ((c : Cell) → is_stored c ≡ true → get s c ≡ get t c) → (o : Option (Name × Kind)) → lies_by s o ≡ lies_by t o
alike_at s t same None = refl
alike_at s t same (Some (d, kind)) = ap (λ (o : Option Value). mapping_of s d (domain_in o)) (same (Object d) refl) ∙ alike_in s t same d (domain_at t d)

alike : (s t : Cells) → ((c : Cell) → is_stored c ≡ true → get s c ≡ get t c) → (a : Name) → lies_by s (array_at s a) ≡ lies_by t (array_at t a)
alike s t same a = ap (λ (o : Option Value). lies_by s (object_in o)) (same (Object a) refl) ∙ alike_at s t same (array_at t a)

shelf_set : (cells : Stored) (arrays fresh : BTreeMap Name Pieced) (t : Cells) → IsShelf cells arrays → IsWellFormed t →
    cells_of cells fresh ≡ t → keys_of fresh.entries ≡ keys_of arrays.entries →
    ((b : Name) → option_map (λ p. p.1) (array_in fresh.entries b) ≡ option_map (λ p. p.1) (array_in arrays.entries b)) →
    ((c : Cell) → is_stored c ≡ true → get (cells_of cells arrays) c ≡ get t c) → IsShelf cells fresh
shelf_set cells arrays fresh t kept formed is names lie same = record {
  well_formed = subst IsWellFormed (sym is) formed;
  stored = kept.stored;
  ascending = kept.ascending;
  by_name = subst (λ (ns : List Name). IsStrictlySortedBy (slice_cmp nat_cmp) ns) (sym names) kept.by_name;
  lie = λ a. lie a ∙ kept.lie a ∙ alike (cells_of cells arrays) t same a ∙ ap (λ (s : Cells). lies_by s (array_at s a)) (sym is);
}

pub set_whole : (cells : Stored) (arrays fresh : BTreeMap Name Pieced) (delta : Changes) → IsShelf cells arrays →
    IsWellFormed (apply delta (cells_of cells arrays)) → list_all (is_set (element_in arrays.entries)) delta ≡ true →
    keys_of fresh.entries ≡ keys_of arrays.entries →
    ((b : Name) → option_map (λ p. p.1) (array_in fresh.entries b) ≡ option_map (λ p. p.1) (array_in arrays.entries b)) →
    ((s : Cells) → Agree arrays.entries s → Agree fresh.entries (apply delta s)) →
    (cells_of cells fresh ≡ apply delta (cells_of cells arrays)) × IsShelf cells fresh
set_whole cells arrays fresh delta kept formed set names lie made =
    let s : Cells = cells_of cells arrays in
    let same : (c : Cell) → is_stored c ≡ true → get s c ≡ get (apply delta s) c =
    λ c st. sym (apply_keeps cell_order delta s c (not_changed (element_in arrays.entries) delta c st set)) in
    let is : cells_of cells fresh ≡ apply delta s =
    same_cells cells fresh (apply delta s) (is_kept cells arrays fresh kept names) formed
    (λ c st. stored_there cells arrays kept c st ∙ same c st)
    (made s (λ b i. sym (get-cells_of cells arrays kept (Element b i)))) in
    (is, shelf_set cells arrays fresh (apply delta s) kept formed is names lie same)
