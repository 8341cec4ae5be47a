-- What a look at a pattern shows of what is kept.
use Rattle.std.proofs.Common.{◌≡◌, ℕ, ℤ, Bool, true, false, cond, List, [], ◌∷◌, Option, Some, None, Result, Ok, Err, IfOk, refl, sym, ap, ◌∙◌}
use Rattle.std.specs.declared.cmp.Ordering.TheVariants.{Less}
use Rattle.std.specs.BTreeMap.{BTreeMap, is_at}
use Rattle.std.specs.Cmp.{eq_by_cmp_equiv, tied_itself}
use Rattle.std.specs.Cmp.Lexicographic.{nat_list_cmp_total}
use Rattle.std.specs.FinMap.{get, entries, from_entries, retain_keys, get-retain_keys, get-from_entries}
use Rattle.std.specs.List.{AllByRecursion, filter_map}
use Rattle.std.specs.List.Sorted.{IsStrictlySortedBy}
use Rattle.std.specs.Map.{lookup, keys_of}
use Rattle.std.specs.Option.{option_map, option_and_then}
use Rattle.std.specs.Ordering.{is_eq, ordering_then, eq_by_cmp}
use Rattle.selective_undo.proofs.Changes.{same_states}
use Rattle.wb_cells.specs.declared.cells.cell.Cell.{Cell}
use Rattle.wb_cells.specs.declared.cells.cell.Cell.TheVariants.{Object, Shape, In, Member, Mapping, Use, Implicit, Element}
use Rattle.wb_cells.specs.declared.cells.pattern.Pattern.{Pattern}
use Rattle.wb_cells.specs.declared.cells.pattern.Pattern.TheVariants.{One, Elements}
use Rattle.wb_cells.specs.declared.cells.value.Value.{Value}
use Rattle.wb_cells.specs.declared.cells.value.Value.TheVariants.{Number}
use Rattle.wb_cells.specs.declared.values.index.Index.{Index}
use Rattle.wb_cells.specs.Cells.{Stored, Name, Cells, cell_cmp, cell_order, index_cmp, is_same_name, matches}
use Rattle.wb_cells.specs.Readers.{seen, elements, element_in as told_by}
use Rattle.wb_cells.proofs.Order.{entries_ascending}
use Rattle.wb_book.specs.Joined.{stored_in}
use Rattle.wb_book.proofs.Joined.{find-lookup, array_is_group}
use Rattle.wb_book.specs.Kept.{Pieced, array_in, pairs_of, element_cells, one_cell}
use Rattle.wb_book.specs.Shelf.{cells_of, IsShelf}
use Rattle.wb_book.proofs.Kept.{get-cells_of}
use Rattle.wb_book.proofs.Written.{one_name, one_cell as equal_cells}

-- cells in their order that are those which the pattern names
pub seen_is : (s : Cells) (p : Pattern) (es : List (Cell × Value)) → IsStrictlySortedBy cell_cmp (keys_of es) →
    ((c : Cell) → stored_in es c ≡ cond (matches p c) (get s c) None) → seen s p ≡ es
seen_is s p es sorted is =
    ap entries (same_states cell_order (retain_keys s (matches p)) (from_entries es) (λ c.
    get-retain_keys s (matches p) c (λ x tie. ap (matches p) (sym (cell_order.strict c x tie)))
    ∙ sym (get-from_entries cell_order.total es c ∙ find-lookup es c ∙ is c)))
    ∙ entries_ascending es sorted

-- ---- the elements of an array

element_at : (a b : Name) (i : Index) (es : List (Index × ℤ)) →
    stored_in (element_cells a es) (Element b i) ≡ cond (is_same_name a b) (option_map Number (lookup (is_at (index_cmp i)) es)) None
element_at a b i es =
    by (is_same_name b a) refl
    ∙ ap (λ (t : Bool). cond t (option_map Number (lookup (is_at (index_cmp i)) es)) None) ((eq_by_cmp_equiv nat_list_cmp_total).symm b a)
  where
    by : (t : Bool) → is_same_name b a ≡ t → stored_in (element_cells a es) (Element b i) ≡ cond t (option_map Number (lookup (is_at (index_cmp i)) es)) None
    by true e = let group = array_is_group {M = ℕ} b i in group.here (a, (es, 0)) e
    by false e = let group = array_is_group {M = ℕ} b i in group.elsewhere (a, (es, 0)) e

not_there : (c : Cell) (a : Name) → ((j : Index) → is_eq (cell_cmp c (Element a j)) ≡ false) → (es : List (Index × ℤ)) → stored_in (element_cells a es) c ≡ None
not_there c a apart [] = refl
not_there c a apart (e ∷ es) = rw (apart e.0) (not_there c a apart es)

module _ (s : Cells) (a : Name) (es : List (Index × ℤ)) (agree : (i : Index) → option_map Number (lookup (is_at (index_cmp i)) es) ≡ get s (Element a i)) where
  those_named : (c : Cell) → stored_in (element_cells a es) c ≡ cond (matches (Elements a) c) (get s c) None
  those_named (Object n) = not_there (Object n) a (λ j. refl) es
  those_named (Shape n) = not_there (Shape n) a (λ j. refl) es
  those_named (In n i) = not_there (In n i) a (λ j. refl) es
  those_named (Member n i) = not_there (Member n i) a (λ j. refl) es
  those_named (Mapping n) = not_there (Mapping n) a (λ j. refl) es
  those_named (Use n m) = not_there (Use n m) a (λ j. refl) es
  those_named (Implicit n) = not_there (Implicit n) a (λ j. refl) es
  those_named (Element b i) = element_at a b i es ∙ by (is_same_name a b) refl
    where
      by : (t : Bool) → is_same_name a b ≡ t → cond t (option_map Number (lookup (is_at (index_cmp i)) es)) None ≡ cond t (get s (Element b i)) None
      by true e = agree i ∙ ap (λ (n : Name). get s (Element n i)) (one_name a b e)
      by false e = refl

below_cells : (a : Name) (k : Index) (es : List (Index × ℤ)) → AllByRecursion (λ y. index_cmp k y ≡ Less) (keys_of es) →
    AllByRecursion (λ y. cell_cmp (Element a k) y ≡ Less) (keys_of (element_cells a es))
below_cells a k [] all = tt
below_cells a k (e ∷ es) all = (ap (λ o. ordering_then o (index_cmp k e.0)) (tied_itself nat_list_cmp_total a) ∙ all.0, below_cells a k es all.1)

sorted_cells : (a : Name) (es : List (Index × ℤ)) → IsStrictlySortedBy index_cmp (keys_of es) → IsStrictlySortedBy cell_cmp (keys_of (element_cells a es))
unfolding IsStrictlySortedBy
sorted_cells a [] s = tt
sorted_cells a (e ∷ es) s = (below_cells a e.0 es s.0, sorted_cells a es s.1)

pub pairs_agree : (o : Option Pieced) (i : Index) → option_and_then (λ x. lookup (is_at (index_cmp i)) x.0) o ≡ lookup (is_at (index_cmp i)) (pairs_of o)
pairs_agree None i = refl
pairs_agree (Some p) i = refl

pub seen_elements : (cells : Stored) (arrays : BTreeMap Name Pieced) (a : Name) (es : List (Index × ℤ)) → IsShelf cells arrays →
    es ≡ pairs_of (array_in arrays.entries a) → IsStrictlySortedBy index_cmp (keys_of es) → seen (cells_of cells arrays) (Elements a) ≡ element_cells a es
seen_elements cells arrays a es kept is sorted =
    let s : Cells = cells_of cells arrays in
    let agree : (i : Index) → option_map Number (lookup (is_at (index_cmp i)) es) ≡ get s (Element a i) =
    λ i. ap (λ xs. option_map Number (lookup (is_at (index_cmp i)) xs)) is ∙ ap (option_map Number) (sym (pairs_agree (array_in arrays.entries a) i))
    ∙ sym (get-cells_of cells arrays kept (Element a i)) in
    seen_is s (Elements a) (element_cells a es) (sorted_cells a es sorted) (those_named s a es agree)

told : (a : Name) (es : List (Index × ℤ)) → filter_map told_by (element_cells a es) ≡ es
told a [] = refl
told a (e ∷ es) = ap (λ xs. e ∷ xs) (told a es)

pub elements_are : (cells : Stored) (arrays : BTreeMap Name Pieced) (a : Name) (es : List (Index × ℤ)) → IsShelf cells arrays →
    es ≡ pairs_of (array_in arrays.entries a) → IsStrictlySortedBy index_cmp (keys_of es) → es ≡ elements (cells_of cells arrays) a
elements_are cells arrays a es kept is sorted = sym (ap (filter_map told_by) (seen_elements cells arrays a es kept is sorted) ∙ told a es)

-- ---- one cell

sorted_one : (c : Cell) (w : Option Value) → IsStrictlySortedBy cell_cmp (keys_of (one_cell c w))
unfolding IsStrictlySortedBy
sorted_one c None = tt
sorted_one c (Some w) = (tt, tt)

pub seen_one : (s : Cells) (c : Cell) (v : Option Value) → v ≡ get s c → seen s (One c) ≡ one_cell c v
seen_one s c v is = seen_is s (One c) (one_cell c v) (sorted_one c v) (λ x. one_there v is x)
  where
    same_one : (w : Value) (x : Cell) (t u : Bool) → eq_by_cmp cell_cmp x c ≡ t → eq_by_cmp cell_cmp c x ≡ u → t ≡ u → Some w ≡ get s c →
        cond t (Some w) None ≡ cond u (get s x) None
    same_one w x true true e f g is = is ∙ ap (get s) (equal_cells c x f)
    same_one w x false false e f g is = refl
    same_one w x true false e f g is = cc
    same_one w x false true e f g is = cc

    nothing_one : (x : Cell) (u : Bool) → eq_by_cmp cell_cmp c x ≡ u → None ≡ get s c → None ≡ cond u (get s x) None
    nothing_one x true f is = is ∙ ap (get s) (equal_cells c x f)
    nothing_one x false f is = refl

    one_there : (w : Option Value) → w ≡ get s c → (x : Cell) → stored_in (one_cell c w) x ≡ cond (eq_by_cmp cell_cmp c x) (get s x) None
    one_there None is x = nothing_one x (eq_by_cmp cell_cmp c x) refl is
    one_there (Some w) is x = same_one w x (eq_by_cmp cell_cmp x c) (eq_by_cmp cell_cmp c x) refl refl ((eq_by_cmp_equiv cell_order.total).symm x c) is

-- ---- results

pub both_ok : {A E : Type 0} (r : Result A E) (P Q R : A → Type 0) → IfOk r P → IfOk r Q → ((v : A) → P v → Q v → R v) → IfOk r R
both_ok (Ok v) P Q R p q f = f v p q
both_ok (Err e) P Q R p q f = tt

pub one_ok : {A E : Type 0} (r : Result A E) (P R : A → Type 0) → IfOk r P → ((v : A) → P v → R v) → IfOk r R
one_ok (Ok v) P R p f = f v p
one_ok (Err e) P R p f = tt
