-- What stands in a cell, by what is kept.
use Rattle.std.proofs.Common.{◌≡◌, ℤ, Bool, true, false, cond, ◌&&◌, ◌||◌, List, [], ◌∷◌, ◌++◌, map, Option, Some, None, refl, ap, ◌∙◌}
use Rattle.std.specs.declared.cmp.Ordering.{Ordering}
use Rattle.std.specs.declared.cmp.Ordering.TheVariants.{Less, Equal, Greater}
use Rattle.std.specs.BTreeMap.{is_at}
use Rattle.std.specs.Cmp.Lexicographic.{slice_cmp, nat_list_cmp_total}
use Rattle.std.specs.FinMap.{get, find, from_entries, get-from_entries}
use Rattle.std.specs.List.{flat_map}
use Rattle.std.specs.List.Sorted.{IsStrictlySortedBy}
use Rattle.std.specs.Map.{lookup, keys_of}
use Rattle.std.specs.Option.{option_or, option_and_then, option_map}
use Rattle.std.specs.Ordering.{is_eq, nat_cmp, ordering_then, eq_by_cmp}
use Rattle.wb_cells.specs.declared.cells.cell.Cell.{Cell}
use Rattle.wb_cells.specs.declared.cells.cell.Cell.TheVariants.{Object, Shape, In, Member, Mapping, Use, Implicit, Element}
use Rattle.wb_cells.specs.declared.cells.value.Value.{Value}
use Rattle.wb_cells.specs.declared.cells.value.Value.TheVariants.{Domain, Array, Ranges, Mapping as mapping_value, Present, Bound, Number}
use Rattle.wb_cells.specs.declared.values.index.Index.{Index}
use Rattle.wb_cells.specs.Cells.{Name, cell_cmp, cell_order, index_cmp}
use Rattle.wb_cells.specs.Shapes.{indices}
use Rattle.wb_cells.specs.WellFormed.{inside_of, ranges_in, present_if, has}
use Rattle.wb_book.specs.Joined.{elements_of, insides_of, joined, is_stored, AllStored, answer, stored_in, element_in}
use Rattle.wb_book.proofs.JoinedGroups.{lookup-append, IsGroup, lookup-group, lookup-no_group}

pub find-lookup : (es : List (Cell × Value)) (q : Cell) → find cell_cmp q es ≡ lookup (is_at (cell_cmp q)) es
find-lookup [] q = refl
find-lookup (e ∷ es) q = ap (cond (eq_by_cmp cell_cmp q e.0) (Some e.1)) (find-lookup es q)

-- ---- elements

-- both names and both indices
both : (o r : Ordering) (b : Bool) → is_eq o ≡ b → is_eq (ordering_then o r) ≡ b && is_eq r
both Less r b e = rw (← e) refl
both Equal r b e = rw (← e) refl
both Greater r b e = rw (← e) refl

lookup-elements_of : {M : Type 0} (a b : Name) (m : M) (i : Index) (same : Bool) → is_eq (slice_cmp nat_cmp a b) ≡ same → (es : List (Index × ℤ)) →
    lookup (is_at (cell_cmp (Element a i))) (elements_of (b, (es, m))) ≡ cond same (option_map Number (lookup (is_at (index_cmp i)) es)) None
lookup-elements_of a b m i true is [] = refl
lookup-elements_of a b m i false is [] = refl
lookup-elements_of a b m i true is (e ∷ es) =
    rw (both (slice_cmp nat_cmp a b) (index_cmp i e.0) true is, lookup-elements_of a b m i true is es)
    (elim (is_eq (index_cmp i e.0)) as (λ t. cond t (Some (Number e.1)) (option_map Number (lookup (is_at (index_cmp i)) es)) ≡ option_map Number
    (cond t (Some e.1) (lookup (is_at (index_cmp i)) es))) [ true ↦ refl | false ↦ refl ])
lookup-elements_of a b m i false is (e ∷ es) = rw (both (slice_cmp nat_cmp a b) (index_cmp i e.0) false is) (lookup-elements_of a b m i false is es)

pub array_is_group : {M : Type 0} (a : Name) (i : Index) → IsGroup (slice_cmp nat_cmp) (elements_of {M = M}) (is_at (cell_cmp (Element a i))) a
    (λ x. option_map Number (lookup (is_at (index_cmp i)) x.0))
array_is_group {M = M} a i = record {
  here = λ g e. lookup-elements_of a g.0 g.1.1 i true e g.1.0;
  elsewhere = λ g e. lookup-elements_of a g.0 g.1.1 i false e g.1.0;
}

mapped_twice : {M : Type 0} (i : Index) (o : Option (List (Index × ℤ) × M)) →
    option_and_then (λ x. option_map Number (lookup (is_at (index_cmp i)) x.0)) o ≡ option_map Number
    (option_and_then (λ x. lookup (is_at (index_cmp i)) x.0) o)
mapped_twice i None = refl
mapped_twice i (Some x) = refl

pub lookup-elements : {M : Type 0} (arrays : List (Name × (List (Index × ℤ) × M))) (a : Name) (i : Index) →
    IsStrictlySortedBy (slice_cmp nat_cmp) (keys_of arrays) → lookup (is_at (cell_cmp (Element a i))) (flat_map elements_of arrays) ≡ option_map Number
    (element_in arrays a i)
lookup-elements arrays a i s =
    lookup-group (slice_cmp nat_cmp) nat_list_cmp_total elements_of (is_at (cell_cmp (Element a i))) a _ (array_is_group a i) arrays s
    ∙ mapped_twice i (lookup (is_at (slice_cmp nat_cmp a)) arrays)

-- ---- insides

lookup-points : (d e : Name) (i : Index) (same : Bool) → is_eq (slice_cmp nat_cmp d e) ≡ same → (is : List Index) →
    lookup (is_at (cell_cmp (In d i))) (map (λ j. (In e j, Present)) is) ≡ cond same (present_if (has is i)) None
lookup-points d e i true eq [] = refl
lookup-points d e i false eq [] = refl
lookup-points d e i true eq (j ∷ is) =
    rw (both (slice_cmp nat_cmp d e) (index_cmp i j) true eq, lookup-points d e i true eq is)
    (elim (is_eq (index_cmp i j)) as (λ t. cond t (Some Present) (present_if (has is i)) ≡ present_if (t || has is i)) [ true ↦ refl | false ↦ refl ])
lookup-points d e i false eq (j ∷ is) = rw (both (slice_cmp nat_cmp d e) (index_cmp i j) false eq) (lookup-points d e i false eq is)

insides_here : (d : Name) (i : Index) (g : Cell × Value) → is_eq (cell_cmp (Shape d) g.0) ≡ true →
    lookup (is_at (cell_cmp (In d i))) (insides_of g) ≡ inside_of (ranges_in (Some g.1)) i
insides_here d i (Shape e, Ranges rs) eq = lookup-points d e i true eq (indices rs)
insides_here d i (Shape e, Domain x) eq = refl
insides_here d i (Shape e, Array n k) eq = refl
insides_here d i (Shape e, mapping_value m) eq = refl
insides_here d i (Shape e, Present) eq = refl
insides_here d i (Shape e, Bound b) eq = refl
insides_here d i (Shape e, Number z) eq = refl
insides_here d i (Object e, v) eq = cc
insides_here d i (In e j, v) eq = cc
insides_here d i (Member e j, v) eq = cc
insides_here d i (Mapping e, v) eq = cc
insides_here d i (Use e n, v) eq = cc
insides_here d i (Implicit e, v) eq = cc
insides_here d i (Element e j, v) eq = cc

insides_elsewhere : (d : Name) (i : Index) (g : Cell × Value) → is_eq (cell_cmp (Shape d) g.0) ≡ false →
    lookup (is_at (cell_cmp (In d i))) (insides_of g) ≡ None
insides_elsewhere d i (Shape e, Ranges rs) eq = lookup-points d e i false eq (indices rs)
insides_elsewhere d i (Shape e, Domain x) eq = refl
insides_elsewhere d i (Shape e, Array n k) eq = refl
insides_elsewhere d i (Shape e, mapping_value m) eq = refl
insides_elsewhere d i (Shape e, Present) eq = refl
insides_elsewhere d i (Shape e, Bound b) eq = refl
insides_elsewhere d i (Shape e, Number z) eq = refl
insides_elsewhere d i (Object e, v) eq = refl
insides_elsewhere d i (In e j, v) eq = refl
insides_elsewhere d i (Member e j, v) eq = refl
insides_elsewhere d i (Mapping e, v) eq = refl
insides_elsewhere d i (Use e n, v) eq = refl
insides_elsewhere d i (Implicit e, v) eq = refl
insides_elsewhere d i (Element e j, v) eq = refl

inside_by : (i : Index) (o : Option Value) → option_and_then (λ v. inside_of (ranges_in (Some v)) i) o ≡ inside_of (ranges_in o) i
inside_by i None = refl
inside_by i (Some v) = refl

pub lookup-insides : (cells : List (Cell × Value)) (d : Name) (i : Index) → IsStrictlySortedBy cell_cmp (keys_of cells) →
    lookup (is_at (cell_cmp (In d i))) (flat_map insides_of cells) ≡ inside_of (ranges_in (stored_in cells (Shape d))) i
lookup-insides cells d i s =
    lookup-group cell_cmp cell_order.total insides_of (is_at (cell_cmp (In d i))) (Shape d) _
    (record { here = insides_here d i; elsewhere = insides_elsewhere d i }) cells s
    ∙ inside_by i (stored_in cells (Shape d))

-- ---- all other cells

-- no cell that is derived is a stored one
not_element : {M : Type 0} (c : Cell) (a : Name) (m : M) → ((b : Name) (j : Index) → is_eq (cell_cmp c (Element b j)) ≡ false) → (es : List (Index × ℤ)) →
    lookup (is_at (cell_cmp c)) (elements_of (a, (es, m))) ≡ None
not_element c a m apart [] = refl
not_element c a m apart (e ∷ es) = rw (apart a e.0) (not_element c a m apart es)

pub no_element : {M : Type 0} (c : Cell) → ((b : Name) (j : Index) → is_eq (cell_cmp c (Element b j)) ≡ false) →
    (arrays : List (Name × (List (Index × ℤ) × M))) → lookup (is_at (cell_cmp c)) (flat_map elements_of arrays) ≡ None
no_element c apart arrays = lookup-no_group (slice_cmp nat_cmp) nat_list_cmp_total elements_of (is_at (cell_cmp c)) (λ g. not_element c g.0 g.1.1 apart g.1.0)
    arrays

not_point : (c : Cell) (d : Name) → ((b : Name) (j : Index) → is_eq (cell_cmp c (In b j)) ≡ false) → (is : List Index) →
    lookup (is_at (cell_cmp c)) (map (λ j. (In d j, Present)) is) ≡ None
not_point c d apart [] = refl
not_point c d apart (i ∷ is) = rw (apart d i) (not_point c d apart is)

not_inside : (c : Cell) → ((b : Name) (j : Index) → is_eq (cell_cmp c (In b j)) ≡ false) → (g : Cell × Value) →
    lookup (is_at (cell_cmp c)) (insides_of g) ≡ None
not_inside c apart (Shape e, Ranges rs) = not_point c e apart (indices rs)
not_inside c apart (Shape e, Domain x) = refl
not_inside c apart (Shape e, Array n k) = refl
not_inside c apart (Shape e, mapping_value m) = refl
not_inside c apart (Shape e, Present) = refl
not_inside c apart (Shape e, Bound b) = refl
not_inside c apart (Shape e, Number z) = refl
not_inside c apart (Object e, v) = refl
not_inside c apart (In e j, v) = refl
not_inside c apart (Member e j, v) = refl
not_inside c apart (Mapping e, v) = refl
not_inside c apart (Use e n, v) = refl
not_inside c apart (Implicit e, v) = refl
not_inside c apart (Element e j, v) = refl

pub no_inside : (c : Cell) → ((b : Name) (j : Index) → is_eq (cell_cmp c (In b j)) ≡ false) → (cells : List (Cell × Value)) →
    lookup (is_at (cell_cmp c)) (flat_map insides_of cells) ≡ None
no_inside c apart cells = lookup-no_group cell_cmp cell_order.total insides_of (is_at (cell_cmp c)) (not_inside c apart) cells

-- no stored cell is a derived one
not_stored : (c : Cell) → ((x : Cell) → is_stored x ≡ true → is_eq (cell_cmp c x) ≡ false) → (cells : List (Cell × Value)) → AllStored cells →
    stored_in cells c ≡ None
not_stored c apart [] all = refl
not_stored c apart (e ∷ es) all = rw (apart e.0 all.0) (not_stored c apart es all.1)

in_not_stored : (d : Name) (i : Index) (x : Cell) → is_stored x ≡ true → is_eq (cell_cmp (In d i) x) ≡ false
in_not_stored d i (Object e) st = refl
in_not_stored d i (Shape e) st = refl
in_not_stored d i (In e j) st = cc
in_not_stored d i (Member e j) st = refl
in_not_stored d i (Mapping e) st = refl
in_not_stored d i (Use e n) st = refl
in_not_stored d i (Implicit e) st = refl
in_not_stored d i (Element e j) st = cc

element_not_stored : (d : Name) (i : Index) (x : Cell) → is_stored x ≡ true → is_eq (cell_cmp (Element d i) x) ≡ false
element_not_stored d i (Object e) st = refl
element_not_stored d i (Shape e) st = refl
element_not_stored d i (In e j) st = cc
element_not_stored d i (Member e j) st = refl
element_not_stored d i (Mapping e) st = refl
element_not_stored d i (Use e n) st = refl
element_not_stored d i (Implicit e) st = refl
element_not_stored d i (Element e j) st = cc

pub not_kept : (c : Cell) → is_stored c ≡ false → (cells : List (Cell × Value)) → AllStored cells → stored_in cells c ≡ None
not_kept (In d i) st cells all = not_stored (In d i) (in_not_stored d i) cells all
not_kept (Element a i) st cells all = not_stored (Element a i) (element_not_stored a i) cells all
not_kept (Object n) st cells all = cc
not_kept (Shape n) st cells all = cc
not_kept (Member n i) st cells all = cc
not_kept (Mapping n) st cells all = cc
not_kept (Use n m) st cells all = cc
not_kept (Implicit n) st cells all = cc

or_none : {V : Type 0} (o : Option V) → option_or o None ≡ o
or_none None = refl
or_none (Some v) = refl

module _ {M : Type 0} (cells : List (Cell × Value)) (arrays : List (Name × (List (Index × ℤ) × M))) where
  pub record IsKept : Type 0 where
    pub stored : AllStored cells
    pub ascending : IsStrictlySortedBy cell_cmp (keys_of cells)
    pub by_name : IsStrictlySortedBy (slice_cmp nat_cmp) (keys_of arrays)

  three : (c : Cell) → get (from_entries {R = cell_cmp} (joined cells arrays)) c ≡ option_or (stored_in cells c)
      (option_or (lookup (is_at (cell_cmp c)) (flat_map insides_of cells)) (lookup (is_at (cell_cmp c)) (flat_map elements_of arrays)))
  three c =
      get-from_entries cell_order.total (joined cells arrays) c ∙ find-lookup (joined cells arrays) c
      ∙ lookup-append (is_at (cell_cmp c)) cells (flat_map insides_of cells ++ flat_map elements_of arrays)
      ∙ ap (option_or (stored_in cells c)) (lookup-append (is_at (cell_cmp c)) (flat_map insides_of cells) (flat_map elements_of arrays))

  alone : (c : Cell) → ((b : Name) (j : Index) → is_eq (cell_cmp c (In b j)) ≡ false) → ((b : Name) (j : Index) → is_eq (cell_cmp c (Element b j)) ≡ false) →
      get (from_entries {R = cell_cmp} (joined cells arrays)) c ≡ stored_in cells c
  alone c inside element = three c ∙ rw (no_inside c inside cells, no_element c element arrays) (or_none (stored_in cells c))

  pub get-joined : IsKept → (c : Cell) → get (from_entries {R = cell_cmp} (joined cells arrays)) c ≡ answer (stored_in cells) (element_in arrays) c
  get-joined kept (Object n) = alone (Object n) (λ b j. refl) (λ b j. refl)
  get-joined kept (Shape n) = alone (Shape n) (λ b j. refl) (λ b j. refl)
  get-joined kept (Member n i) = alone (Member n i) (λ b j. refl) (λ b j. refl)
  get-joined kept (Mapping n) = alone (Mapping n) (λ b j. refl) (λ b j. refl)
  get-joined kept (Use n m) = alone (Use n m) (λ b j. refl) (λ b j. refl)
  get-joined kept (Implicit n) = alone (Implicit n) (λ b j. refl) (λ b j. refl)
  get-joined kept (In d i) =
      three (In d i)
      ∙ rw (not_stored (In d i) (in_not_stored d i) cells kept.stored, no_element (In d i) (λ b j. refl) arrays, lookup-insides cells d i kept.ascending)
      (or_none (inside_of (ranges_in (stored_in cells (Shape d))) i))
  get-joined kept (Element a i) =
      three (Element a i)
      ∙ rw (not_stored (Element a i) (element_not_stored a i) cells kept.stored, no_inside (Element a i) (λ b j. refl) cells)
      (lookup-elements arrays a i kept.by_name)
