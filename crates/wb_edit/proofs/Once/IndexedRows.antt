-- Changes that name each cell once: cells of indices, and what commands make of them.
use Rattle.std.proofs.Common.{◌≡◌, ℕ, zero, suc, false, T, ℤ, List, [], ◌∷◌, ◌++◌, map, Option, Some, None, slice_get, refl, sym, ap, ◌∙◌, arith}
use Rattle.std.specs.Cmp.{Equal-is}
use Rattle.std.specs.FinMap.{is_sorted}
use Rattle.std.specs.FinMap.Entries.{below_all}
use Rattle.std.specs.List.{AllByRecursion, zip}
use Rattle.std.specs.Map.{keys_of}
use Rattle.std.specs.Ordering.{eq_by_cmp}
use Rattle.selective_undo.specs.declared.Change.{Change}
use Rattle.selective_undo.specs.Changes.{changes, AllOnce}
use Rattle.selective_undo.proofs.Changes.{not_true, is_itself}
use Rattle.wb_range.specs.Domain.{IsListedOnce}
use Rattle.wb_cells.specs.declared.cells.cell.Cell.{Cell}
use Rattle.wb_cells.specs.declared.cells.cell.Cell.TheVariants.{Object, Shape, In, Member, Mapping, Use, Element}
use Rattle.wb_cells.specs.declared.cells.kind.DomainKind.{DomainKind}
use Rattle.wb_cells.specs.declared.cells.kind.DomainKind.TheVariants.{Rectangular, Sparse, Associative}
use Rattle.wb_cells.specs.declared.cells.kind.Kind.{Kind}
use Rattle.wb_cells.specs.declared.cells.kind.Kind.TheVariants.{Rectangular as over_rectangular, Sparse as over_sparse, Associative as over_associative}
use Rattle.wb_cells.specs.declared.cells.value.Value.{Value}
use Rattle.wb_cells.specs.declared.cells.value.Value.TheVariants.{Number, Present}
use Rattle.wb_cells.specs.declared.values.index.Index.{Index}
use Rattle.wb_cells.specs.Cells.{Name, Changes, cell_cmp, cell_order, index_cmp}
use Rattle.wb_cells.specs.Kinds.{kind_of}
use Rattle.wb_cells.specs.WellFormed.{index_cell}
use Rattle.wb_reshape.specs.Dropped.{cells_beside_indices, dropped_domain_cells}
use Rattle.wb_reshape.specs.Resized.{exchanged, elements_exchanged, resized_cells}
use Rattle.wb_reshape.specs.Writes.{put_all, clear_all}
use Rattle.wb_reshape.proofs.Gets.{same_key}
use Rattle.wb_reshape.proofs.Sorted.{first, second}
use Rattle.wb_edit.specs.Changed.{set_all, AreApart}
use Rattle.wb_edit.specs.Commands.{number_cells}
use Rattle.wb_edit.proofs.Becoming.{less_and_equal}
use Rattle.wb_edit.proofs.IndexedRows.{changes-append, elsewhere}
use Rattle.wb_edit.proofs.Elements.{index_order}
use Rattle.wb_edit.proofs.Exchanges.{neither, none_exchanged, none_of}

-- ---- lists

all_append : {X : Type 0} (P : X → Type 0) (xs ys : List X) → AllByRecursion P xs → AllByRecursion P ys → AllByRecursion P (xs ++ ys)
all_append P [] ys all more = more
all_append P (x ∷ xs) ys all more = (all.0, all_append P xs ys all.1 more)

later : {X : Type 0} (x : X) (xs : List X) → IsListedOnce (x ∷ xs) → IsListedOnce xs
later x xs once p q y e f = let same : suc p ≡ suc q = once (suc p) (suc q) y e f in omega (arith, same)

not_again : {X : Type 0} (x : X) (xs : List X) → IsListedOnce (x ∷ xs) → (q : ℕ) → slice_get xs q ≡ Some x → ⊥
not_again x xs once q e = let same : zero ≡ suc q = once zero (suc q) x refl e in omega (arith, same)

-- changes, and then others of other cells
pub once_append : (xs ys : Changes) → AllOnce cell_cmp xs → AllOnce cell_cmp ys →
    AllByRecursion (λ (x : Change Cell Value). changes cell_cmp ys x.cell ≡ false) xs → AllOnce cell_cmp (xs ++ ys)
once_append [] ys one two apart = two
once_append (x ∷ xs) ys one two apart = (changes-append xs ys x.cell ∙ neither _ _ one.0 apart.0, once_append xs ys one.1 two apart.1)

-- ---- cells of indices

-- what holds of the cells of indices
each_of : (P : Cell → Type 0) (f : Index → Cell) (o : Option Value) (is : List Index) → ((p : ℕ) (i : Index) → slice_get is p ≡ Some i → P (f i)) →
    AllByRecursion (λ (x : Change Cell Value). P x.cell) (set_all (map f is) o)
each_of P f o [] all = tt
each_of P f o (i ∷ is) all = (all zero i refl, each_of P f o is (λ p j e. all (suc p) j e))

-- other indices have other cells
abbrev pub Distinct : (Index → Cell) → Type 0
Distinct f = (i j : Index) → f i ≡ f j → i ≡ j

module _ (f : Index → Cell) (distinct : Distinct f) where
  others : (o : Option Value) (i : Index) (js : List Index) → ((q : ℕ) → slice_get js q ≡ Some i → ⊥) → changes cell_cmp (set_all (map f js) o) (f i) ≡ false
  others o i [] other = refl
  others o i (j ∷ js) other =
      let differs : eq_by_cmp cell_cmp (f i) (f j) ≡ false = not_true _ λ e.
      let same : f i ≡ f j = cell_order.strict (f i) (f j) ((Equal-is (cell_cmp (f i) (f j))).0 e) in
      other zero (ap Some (sym (distinct i j same))) in
      let rest = others o i js (λ q e. other (suc q) e) in
      rw (differs, rest) refl

  pub once_indexed : (o : Option Value) (is : List Index) → IsListedOnce is → AllOnce cell_cmp (set_all (map f is) o)
  once_indexed o [] once = tt
  once_indexed o (i ∷ is) once = (others o i is (not_again i is once), once_indexed o is (later i is once))

  pub once_exchanged : (leaving coming : List Index) (v : Value) → IsListedOnce leaving → IsListedOnce coming → AreApart leaving coming →
      AllOnce cell_cmp (exchanged f leaving coming v)
  once_exchanged leaving coming v leave come apart =
      once_append (clear_all (map f leaving)) (put_all (map f coming) v) (once_indexed None leaving leave) (once_indexed (Some v) coming come) (
      each_of (λ c. changes cell_cmp (put_all (map f coming) v) c ≡ false) f None leaving (λ p i e. others (Some v) i coming (λ q g. apart p q i e g)))

-- ---- elements that become numbers, in the order of their indices

not_numbered : (a : Name) (i : Index) (js : List Index) (vs : List ℤ) → ((q : ℕ) → slice_get js q ≡ Some i → ⊥) →
    changes cell_cmp (number_cells a (zip js vs)) (Element a i) ≡ false
not_numbered a i [] vs other = refl
not_numbered a i (j ∷ js) [] other = refl
not_numbered a i (j ∷ js) (v ∷ vs) other =
    let differs : eq_by_cmp cell_cmp (Element a i) (Element a j) ≡ false = not_true _ λ e.
    let cell : Element a i ≡ Element a j = cell_order.strict (Element a i) (Element a j) ((Equal-is (cell_cmp (Element a i) (Element a j))).0 e) in
    let same : i ≡ j = cc in
    other zero (ap Some (sym same)) in
    let rest = not_numbered a i js vs (λ q e. other (suc q) e) in
    rw (differs, rest) refl

pub once_numbered : (a : Name) (is : List Index) (vs : List ℤ) → IsListedOnce is → AllOnce cell_cmp (number_cells a (zip is vs))
once_numbered a [] vs once = tt
once_numbered a (i ∷ is) [] once = tt
once_numbered a (i ∷ is) (v ∷ vs) once = (not_numbered a i is vs (not_again i is once), once_numbered a is vs (later i is once))

-- ---- indices that leave a domain, and others that come

pub same_member : (kind : Kind) (d : Name) → Distinct (index_cell kind d)
same_member (over_rectangular rank) d i j e = cc
same_member (over_sparse rank) d i j e = cc
same_member (over_associative type) d i j e = cc

no_element : (kind : Kind) (d a : Name) (i j : Index) → eq_by_cmp cell_cmp (index_cell kind d i) (Element a j) ≡ false
no_element (over_rectangular rank) d a i j = refl
no_element (over_sparse rank) d a i j = refl
no_element (over_associative type) d a i j = refl

module _ (leaving coming : List Index) where
  -- a cell that is no element
  pub none_among : (c : Cell) → ((a : Name) (j : Index) → eq_by_cmp cell_cmp c (Element a j) ≡ false) → (fs : List (Name × ℤ)) →
      changes cell_cmp (elements_exchanged fs leaving coming) c ≡ false
  none_among c other [] = refl
  none_among c other (f ∷ fs) =
      changes-append (exchanged (Element f.0) leaving coming (Number f.1)) (elements_exchanged fs leaving coming) c
      ∙ neither _ _ (none_exchanged leaving coming (Element f.0) (Number f.1) c (λ j. other f.0 j)) (none_among c other fs)

  -- what holds of the cells of indices holds of those that are exchanged
  all_exchanged : (P : Cell → Type 0) (f : Index → Cell) (v : Value) → ((i : Index) → P (f i)) →
      AllByRecursion (λ (x : Change Cell Value). P x.cell) (exchanged f leaving coming v)
  all_exchanged P f v all =
      all_append (λ (x : Change Cell Value). P x.cell) (clear_all (map f leaving)) (put_all (map f coming) v) (each_of P f None leaving (λ p i e. all i))
      (each_of P f (Some v) coming (λ p i e. all i))

  module _ (leave : IsListedOnce leaving) (come : IsListedOnce coming) (apart : AreApart leaving coming) where
    once_elements : (fs : List (Name × ℤ)) → IsListedOnce (keys_of fs) → AllOnce cell_cmp (elements_exchanged fs leaving coming)
    once_elements [] names = tt
    once_elements (f ∷ fs) names =
        let rest : Changes = elements_exchanged fs leaving coming in
        once_append (exchanged (Element f.0) leaving coming (Number f.1)) rest
        (once_exchanged (Element f.0) (λ i j e. cc) leaving coming (Number f.1) leave come apart) (once_elements fs (later f.0 (keys_of fs) names)) (
        all_exchanged (λ c. changes cell_cmp rest c ≡ false) (Element f.0) (Number f.1)
        (λ i. none_of leaving coming fs f.0 i (not_again f.0 (keys_of fs) names)))

    pub once_resized : (kind : Kind) (d : Name) (fs : List (Name × ℤ)) → IsListedOnce (keys_of fs) → AllOnce cell_cmp (resized_cells kind d fs leaving coming)
    once_resized kind d fs names =
        once_append (exchanged (index_cell kind d) leaving coming Present) (elements_exchanged fs leaving coming)
        (once_exchanged (index_cell kind d) (same_member kind d) leaving coming Present leave come apart) (once_elements fs names) (
        all_exchanged (λ c. changes cell_cmp (elements_exchanged fs leaving coming) c ≡ false) (index_cell kind d) Present
        (λ i. none_among (index_cell kind d i) (λ a j. no_element kind d a i j) fs))

-- ---- the end of a domain

own_once : (d : Name) (kind : DomainKind) → AllOnce cell_cmp (clear_all (cells_beside_indices d kind))
own_once d (Rectangular rank) = (refl, (refl, (refl, tt)))
own_once d (Sparse parent rank) = (refl, (refl, tt))
own_once d (Associative type) = (refl, tt)

own_beside : (d : Name) (kind : DomainKind) (is : List Index) →
    AllByRecursion (λ (x : Change Cell Value). changes cell_cmp (clear_all (map (index_cell (kind_of kind) d) is)) x.cell ≡ false)
    (clear_all (cells_beside_indices d kind))
own_beside d (Rectangular rank) is = (
  elsewhere (In d) None (Object d) is (λ i. refl),
  (elsewhere (In d) None (Shape d) is (λ i. refl), (elsewhere (In d) None (Mapping d) is (λ i. refl), tt)),
)
own_beside d (Sparse parent rank) is = (elsewhere (Member d) None (Object d) is (λ i. refl), (elsewhere (Member d) None (Use parent d) is (λ i. refl), tt))
own_beside d (Associative type) is = (elsewhere (Member d) None (Object d) is (λ i. refl), tt)

pub once_ended : (d : Name) (kind : DomainKind) (is : List Index) → IsListedOnce is → AllOnce cell_cmp (dropped_domain_cells d kind is)
once_ended d kind is once = once_append (clear_all (cells_beside_indices d kind)) (clear_all (map (index_cell (kind_of kind) d) is)) (own_once d kind)
    (once_indexed (index_cell (kind_of kind) d) (same_member (kind_of kind) d) None is once) (own_beside d kind is)

-- ---- elements that were seen, in the order of their indices

module _ (a : Name) (g : Index × ℤ → Option Value) where
  abbrev changed : List (Index × ℤ) → Changes
  changed es = map (λ e. record { cell = Element a e.0; value = g e }) es

  none_above : (k : Index) (es : List (Index × ℤ)) → T (below_all index_cmp k es) → changes cell_cmp (changed es) (Element a k) ≡ false
  none_above k [] below = refl
  none_above k (e ∷ es) below =
      let differs : eq_by_cmp cell_cmp (Element a k) (Element a e.0) ≡ false = not_true _ λ tie.
      let cell : Element a k ≡ Element a e.0 = same_key cell_order (Element a k) (Element a e.0) tie in
      let index : k ≡ e.0 = cc in
      less_and_equal (index_cmp k e.0) (first _ _ below) (ap (λ j. eq_by_cmp index_cmp k j) (sym index) ∙ is_itself index_order k) in
      let rest = none_above k es (second _ _ below) in
      rw (differs, rest) refl

  pub once_seen : (es : List (Index × ℤ)) → T (is_sorted index_cmp es) → AllOnce cell_cmp (changed es)
  once_seen [] sorted = tt
  once_seen (e ∷ es) sorted = (none_above e.0 es (first _ _ sorted), once_seen es (second _ _ sorted))
