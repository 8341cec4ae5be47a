-- What follows where a workbook is well formed, and what stays so where another one holds the same.
use Rattle.std.proofs.Common.{◌≡◌, ℕ, Bool, true, false, cond, ◌&&◌, List, Option, Some, None, is_some, option_map, refl, sym, ap, ◌∙◌, Ordering, subst}
use Rattle.std.proofs.lemmas.Option.{none-some, same_Some}
use Rattle.std.specs.Ordering.{is_eq, ordering_then}
use Rattle.std.specs.declared.cmp.Ordering.TheVariants.{Less, Equal, Greater}
use Rattle.std.specs.Cmp.{Equal-is, eq_by_cmp_equiv}
use Rattle.std.specs.Cmp.Lexicographic.{nat_list_cmp_total}
use Rattle.std.specs.List.{list_any}
use Rattle.std.specs.FinMap.{get}
use Rattle.wb_cells.specs.declared.cells.cell.Cell.TheVariants.{Object, Shape, In, Member, Mapping, Use, Element}
use Rattle.wb_cells.specs.declared.cells.kind.DomainKind.{DomainKind}
use Rattle.wb_cells.specs.declared.cells.kind.DomainKind.TheVariants.{Rectangular, Sparse, Associative}
use Rattle.wb_cells.specs.declared.cells.kind.Kind.{Kind}
use Rattle.wb_cells.specs.declared.cells.kind.Kind.TheVariants.{Rectangular, Sparse, Associative}
use Rattle.wb_cells.specs.declared.cells.value.Binding.TheVariants.{Array as BoundArray, Sparse as BoundSparse}
use Rattle.wb_cells.specs.declared.cells.value.Value.{Value}
use Rattle.wb_cells.specs.declared.cells.value.Value.TheVariants.{Domain, Array, Ranges, Mapping, Present, Bound, Number}
use Rattle.wb_cells.specs.declared.values.index.Index.{Index}
use Rattle.wb_cells.specs.Names.{is_name}
use Rattle.wb_cells.specs.Shapes.{Range, indices}
use Rattle.wb_cells.specs.Cells.{Name, Cells, index_cmp, index_cmp-IsAntisymmetric, is_same_name, is_same_index, same_names}
use Rattle.wb_cells.specs.WellFormed.{IsWellFormed, IsObject, IsRectangle, IsShape, HasMapping, IsMember, IsElement, has, present_if, domain_in, array_in}
use Rattle.wb_cells.specs.WellFormed.{ranges_in, inside_of, use_of, domain_at, array_at, index_cell, is_index_of_array}
use Rattle.wb_cells.specs.Kinds.{kind_of}
use Rattle.wb_reshape.proofs.Gets.{list_any-nowhere}

pub same_name : (m n : Name) → is_same_name m n ≡ true → m ≡ n
same_name m n e = same_names m n ((Equal-is _).0 e)

pub itself : (n : Name) → is_same_name n n ≡ true
itself n = (eq_by_cmp_equiv nat_list_cmp_total).refl n

pub same_index : (i j : Index) → is_same_index i j ≡ true → i ≡ j
same_index i j e = index_cmp-IsAntisymmetric i j ((Equal-is _).0 e)

-- ---- cells of a name and something else: the order compares the names first

-- a column has the cell where the names tie and the list has the index
pub in_column : (o : Ordering) (i : Index) (is : List Index) → list_any (λ j. is_eq (ordering_then o (index_cmp i j))) is ≡ (is_eq o && has is i)
in_column Less i is = list_any-nowhere is
in_column Equal i is = refl
in_column Greater i is = list_any-nowhere is

-- both parts tie
pub second_first : (o p : Ordering) → is_eq (ordering_then o p) ≡ (is_eq p && is_eq o)
second_first Less Less = refl
second_first Less Equal = refl
second_first Less Greater = refl
second_first Equal Less = refl
second_first Equal Equal = refl
second_first Equal Greater = refl
second_first Greater Less = refl
second_first Greater Equal = refl
second_first Greater Greater = refl

-- ---- objects

nothing_is_member : (s : Cells) (i : Index) (v : Option Value) → IsMember s None i v → v ≡ None
nothing_is_member s i None m = refl
nothing_is_member s i (Some v) m = absurd m.1

-- a domain of a kind
pub of_kind : (o : Option DomainKind) (kind : Kind) → option_map kind_of o ≡ Some kind → (x : DomainKind) × (o ≡ Some x) × (kind_of x ≡ kind)
of_kind None kind e = cc
of_kind (Some x) kind e = (x, refl, same_Some (kind_of x) kind e)

pub array_in-is : (v : Option Value) (x : Name × Kind) → array_in v ≡ Some x → v ≡ Some (Array x.0 x.1)
array_in-is (Some (Array d k)) x e = cc
array_in-is _ x e = cc

pub domain_in-is : (v : Option Value) (kind : DomainKind) → domain_in v ≡ Some kind → v ≡ Some (Domain kind)
domain_in-is (Some (Domain k)) kind e = cc
domain_in-is _ kind e = cc

-- what is bound to a domain as an array is an array over it
bound_array : (d : Name) (o : Option Value) → use_of d o ≡ Some (Bound BoundArray) → (kind : Kind) × (array_in o ≡ Some (d, kind))
bound_array d (Some (Array e kind)) used = elim (is_same_name d e) as
    (λ b. is_same_name d e ≡ b → elim b [ true ↦ Some (Bound BoundArray) | false ↦ None ] ≡ Some (Bound BoundArray) → (other : Kind) ×
    (array_in (Some (Array e kind)) ≡ Some (d, other))) [
      | true ↦ λ same _. (kind, ap (λ n. array_in (Some (Array n kind))) (sym (same_name d e same)))
      | false ↦ λ other none. cc
    ] refl used
bound_array d (Some (Domain (Sparse parent rank))) used = absurd
    (elim (is_same_name d parent) as (λ b. elim b [ true ↦ Some (Bound BoundSparse) | false ↦ None ] ≡ Some (Bound BoundArray) → ⊥) [
      | true ↦ λ no. cc
      | false ↦ λ no. cc
    ] used)
bound_array d _ used = cc

-- what is bound to a domain as a sparse domain is one in it
bound_sparse : (d : Name) (o : Option Value) → use_of d o ≡ Some (Bound BoundSparse) → (rank : ℕ) × (domain_in o ≡ Some (Sparse d rank))
bound_sparse d (Some (Array e kind)) used = absurd (elim (is_same_name d e) as
    (λ b. elim b [ true ↦ Some (Bound BoundArray) | false ↦ None ] ≡ Some (Bound BoundSparse) → ⊥) [
      | true ↦ λ no. cc
      | false ↦ λ no. cc
    ] used)
bound_sparse d (Some (Domain (Sparse parent rank))) used = elim
    (is_same_name d parent) as (λ b. is_same_name d parent ≡ b → elim b [ true ↦ Some (Bound BoundSparse) | false ↦ None ] ≡ Some (Bound BoundSparse) →
    (other : ℕ) × (domain_in (Some (Domain (Sparse parent rank))) ≡ Some (Sparse d other))) [
      | true ↦ λ same _. (rank, ap (λ n. Some (Sparse n rank)) (sym (same_name d parent same)))
      | false ↦ λ other none. cc
    ] refl used
bound_sparse d _ used = cc

pub present_is : (b : Bool) → present_if b ≡ Some Present → b ≡ true
present_is true e = refl
present_is false e = cc

module _ (s : Cells) (h : IsWellFormed s) where
  -- an array's domain is there
  pub domain_of_array : (a d : Name) (kind : Kind) → array_at s a ≡ Some (d, kind) → option_map kind_of (domain_at s d) ≡ Some kind
  domain_of_array a d kind e = h.objects a (Array d kind) (array_in-is (get s (Object a)) (d, kind) e)

  -- a rectangular domain's ranges are there
  pub shape_of_domain : (d : Name) (rank : ℕ) → get s (Object d) ≡ Some (Domain (Rectangular rank)) → (rs : List Range) ×
      (get s (Shape d) ≡ Some (Ranges rs)) × IsRectangle rank rs
  shape_of_domain d rank there = subst (λ o. IsShape (domain_in o) (get s (Shape d))) there (h.shapes d)

  -- an array that is bound to a domain is over it
  pub array_over : (d : Name) (kind : DomainKind) → domain_at s d ≡ Some kind → (a : Name) → get s (Use d a) ≡ Some (Bound BoundArray) →
      array_at s a ≡ Some (d, kind_of kind)
  array_over d kind there a used =
      let array = bound_array d (get s (Object a)) (sym (h.uses d a) ∙ used) in
      let same : array.0 ≡ kind_of kind = same_Some array.0 (kind_of kind) (sym (domain_of_array a d array.0 array.1) ∙ ap (option_map kind_of) there) in
      array.1 ∙ ap (λ x. Some (d, x)) same

  -- a member of a sparse domain that is bound to another one is in that
  pub inside_parent : (d e : Name) (i : Index) → get s (Use d e) ≡ Some (Bound BoundSparse) → get s (Member e i) ≡ Some Present → get s (In d i) ≡ Some Present
  inside_parent d e i used present =
      let sparse = bound_sparse d (get s (Object e)) (sym (h.uses d e) ∙ used) in
      let member : IsMember s (Some (Sparse d sparse.0)) i (Some Present) = rw (sparse.1, present) at (h.members e i) in
      member.1

  -- an index of a rectangular domain is among those of its ranges
  pub among_ranges : (d : Name) (rs : List Range) → get s (Shape d) ≡ Some (Ranges rs) → (i : Index) → get s (In d i) ≡ Some Present → has (indices rs) i ≡ true
  among_ranges d rs shape i present = present_is (has (indices rs) i) (ap (λ o. inside_of (ranges_in o) i) (sym shape) ∙ sym (h.insides d i) ∙ present)

  -- nothing stands in the cells of a name that is free
  module _ (n : Name) (free : get s (Object n) ≡ None) where
    pub no_shape : get s (Shape n) ≡ None
    no_shape = subst (λ o. IsShape (domain_in o) (get s (Shape n))) free (h.shapes n)

    pub no_mapping : get s (Mapping n) ≡ None
    no_mapping = subst (λ o. HasMapping (domain_in o) (get s (Mapping n))) free (h.mappings n)

    pub no_inside : (i : Index) → get s (In n i) ≡ None
    no_inside i = h.insides n i ∙ ap (λ o. inside_of (ranges_in o) i) no_shape

    pub no_member : (i : Index) → get s (Member n i) ≡ None
    no_member i = nothing_is_member s i (get s (Member n i)) (subst (λ o. IsMember s (domain_in o) i (get s (Member n i))) free (h.members n i))

    pub no_element : (i : Index) → get s (Element n i) ≡ None
    no_element i = subst (λ o. IsElement (is_index_of_array s (array_in o) i) (get s (Element n i))) free (h.elements n i)

-- what is said of an object stays so where the domains do
pub IsObject-same : (s t : Cells) → ((d : Name) (kind : DomainKind) → domain_at s d ≡ Some kind → domain_at t d ≡ Some kind) → (v : Value) → IsObject s v →
    IsObject t v
IsObject-same s t kept (Domain (Rectangular rank)) h = h
IsObject-same s t kept (Domain (Sparse parent rank)) h = kept parent (Rectangular rank) h
IsObject-same s t kept (Domain (Associative type)) h = h
IsObject-same s t kept (Array d kind) h = let over = of_kind (domain_at s d) kind h in ap (option_map kind_of) (kept d over.0 over.1) ∙ ap Some over.2
IsObject-same s t kept (Ranges rs) h = h
IsObject-same s t kept (Mapping m) h = h
IsObject-same s t kept Present h = h
IsObject-same s t kept (Bound b) h = h
IsObject-same s t kept (Number x) h = h

-- what is said of a member stays so where an index of a sparse domain stays in its parent
pub IsMember-kept : (s t : Cells) (kind : Option DomainKind) (i : Index) (v : Option Value)
    → ((parent : Name) (rank : ℕ) → kind ≡ Some (Sparse parent rank) → v ≡ Some Present → get s (In parent i) ≡ Some Present →
    get t (In parent i) ≡ Some Present) → IsMember s kind i v → IsMember t kind i v
IsMember-kept s t kind i None kept m = m
IsMember-kept s t (Some (Sparse parent rank)) i (Some v) kept m = (m.0, kept parent rank refl (ap Some m.0) m.1)
IsMember-kept s t (Some (Associative type)) i (Some v) kept m = m
IsMember-kept s t (Some (Rectangular rank)) i (Some v) kept m = m
IsMember-kept s t None i (Some v) kept m = m

-- so it does where the indices of rectangular domains do
pub IsMember-same : (s t : Cells) → ((d : Name) (i : Index) → get s (In d i) ≡ Some Present → get t (In d i) ≡ Some Present) →
    (kind : Option DomainKind) (i : Index) (v : Option Value) → IsMember s kind i v → IsMember t kind i v
IsMember-same s t kept kind i v = IsMember-kept s t kind i v (λ parent rank over there. kept parent i)

-- the cell that says whether an index is in a domain holds the same where both cells do that may say so
pub index_cell_same : (s t : Cells) (kind : Kind) (d : Name) (i : Index) → get t (In d i) ≡ get s (In d i) → get t (Member d i) ≡ get s (Member d i) →
    get t (index_cell kind d i) ≡ get s (index_cell kind d i)
index_cell_same s t (Rectangular rank) d i inside member = inside
index_cell_same s t (Sparse rank) d i inside member = member
index_cell_same s t (Associative type) d i inside member = member

-- an array has the same indices where its domain does
pub indices_same : (s t : Cells) (array : Option (Name × Kind)) (i : Index) →
    ((d : Name) (kind : Kind) → array ≡ Some (d, kind) → get t (index_cell kind d i) ≡ get s (index_cell kind d i)) →
    is_index_of_array t array i ≡ is_index_of_array s array i
indices_same s t None i same = refl
indices_same s t (Some (d, kind)) i same = ap is_some (same d kind refl)

-- ---- a new object x under the name a, which was free

module _ (s t : Cells) (a : Name) (x : Value) (free : get s (Object a) ≡ None)
    (object : (n : Name) → get t (Object n) ≡ cond (is_same_name n a) (Some x) (get s (Object n))) where
  pub was_free : (n : Name) → is_same_name n a ≡ true → get s (Object n) ≡ None
  was_free n e = ap (λ m. get s (Object m)) (same_name n a e) ∙ free

  -- a domain has another name
  pub apart : (d : Name) (kind : DomainKind) → domain_at s d ≡ Some kind → is_same_name d a ≡ false
  apart d kind there = elim (is_same_name d a) as (λ b. is_same_name d a ≡ b → b ≡ false) [
    | true ↦ λ e. absurd (none-some kind (sym (ap domain_in (was_free d e)) ∙ there))
    | false ↦ λ e. refl
  ] refl

  pub domains_stay : (d : Name) (kind : DomainKind) → domain_at s d ≡ Some kind → domain_at t d ≡ Some kind
  domains_stay d kind there = ap domain_in (object d ∙ ap (λ b. cond b (Some x) (get s (Object d))) (apart d kind there)) ∙ there

  -- what is read off objects stays, where x gives what no object gives
  pub stays : {A : Type 0} (f : Option Value → A) → f (Some x) ≡ f None → (n : Name) → f (get t (Object n)) ≡ f (get s (Object n))
  stays f nothing n = ap f (object n) ∙ elim (is_same_name n a) as (λ b. is_same_name n a ≡ b → f (cond b (Some x) (get s (Object n))) ≡ f (get s (Object n))) [
    | true ↦ λ e. nothing ∙ sym (ap f (was_free n e))
    | false ↦ λ e. refl
  ] refl

  -- names are names
  pub names_kept : IsWellFormed s → is_name a ≡ true → (n : Name) (v : Value) → get t (Object n) ≡ Some v → is_name n ≡ true
  names_kept h named n v there = elim (is_same_name n a) as (λ b. is_same_name n a ≡ b → cond b (Some x) (get s (Object n)) ≡ Some v → is_name n ≡ true) [
    | true ↦ λ e _. ap is_name (same_name n a e) ∙ named
    | false ↦ λ e old. h.names n v old
  ] refl (sym (object n) ∙ there)

  -- each object is one
  pub objects_kept : IsWellFormed s → IsObject t x → (n : Name) (v : Value) → get t (Object n) ≡ Some v → IsObject t v
  objects_kept h whole n v there = elim (is_same_name n a) as (λ b. cond b (Some x) (get s (Object n)) ≡ Some v → IsObject t v) [
    | true ↦ λ e. subst (IsObject t) (same_Some x v e) whole
    | false ↦ λ old. IsObject-same s t domains_stay v (h.objects n v old)
  ] (sym (object n) ∙ there)
