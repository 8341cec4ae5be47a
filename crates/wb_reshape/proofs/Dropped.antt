-- The end of a domain to which nothing is bound keeps a workbook well formed.
use Rattle.std.proofs.Common.{◌≡◌, ℕ, Bool, true, false, cond, ◌&&◌, ◌||◌, List, [], ◌∷◌, map, Option, Some, None, is_some, option_map, refl, sym, ap, subst}
use Rattle.std.proofs.Common.{◌∙◌}
use Rattle.std.proofs.lemmas.Option.{none-some}
use Rattle.std.specs.Cmp.Lexicographic.{slice_cmp}
use Rattle.std.specs.Ordering.{eq_by_cmp, nat_cmp}
use Rattle.std.specs.FinMap.{get}
use Rattle.std.specs.List.{AllByRecursion, list_any}
use Rattle.selective_undo.specs.Changes.{apply}
use Rattle.wb_cells.specs.declared.cells.cell.Cell.{Cell}
use Rattle.wb_cells.specs.declared.cells.cell.Cell.TheVariants.{Object, Shape, In, Member, Mapping, Use, Implicit, Element}
use Rattle.wb_cells.specs.declared.cells.kind.DomainKind.{DomainKind}
use Rattle.wb_cells.specs.declared.cells.kind.DomainKind.TheVariants.{Rectangular, Sparse, Associative}
use Rattle.wb_cells.specs.declared.cells.kind.Kind.{Kind}
use Rattle.wb_cells.specs.declared.cells.value.Binding.{Binding}
use Rattle.wb_cells.specs.declared.cells.value.Binding.TheVariants.{Array as BoundArray, Sparse as BoundSparse}
use Rattle.wb_cells.specs.declared.cells.value.Value.{Value}
use Rattle.wb_cells.specs.declared.cells.value.Value.TheVariants.{Domain, Array, Ranges, Mapping, Present, Bound, Number}
use Rattle.wb_cells.specs.declared.values.index.Index.{Index}
use Rattle.wb_cells.specs.Cells.{Name, Cells, cell_cmp, cell_order, is_same_name}
use Rattle.wb_cells.specs.Kinds.{kind_of}
use Rattle.wb_cells.specs.Shapes.{Range, indices}
use Rattle.wb_cells.specs.WellFormed.{IsWellFormed, IsObject, IsShape, HasMapping, IsMember, IsImplicit, IsElement, has, present_if, domain_in, array_in}
use Rattle.wb_cells.specs.WellFormed.{ranges_in, inside_of, use_of, domain_at, array_at, index_cell, is_index_of_array}
use Rattle.wb_reshape.specs.Dropped.{dropped_domain_cells}
use Rattle.wb_reshape.specs.Laws.{KeepsDrops}
use Rattle.wb_reshape.specs.Writes.{clear_all}
use Rattle.wb_reshape.proofs.Gets.{after, cond-or, list_any-map, get-apply, same_key}
use Rattle.wb_reshape.proofs.States.{same_name, itself, in_column, second_first, domain_in-is, array_in-is, index_cell_same, indices_same, IsMember-kept}

-- ---- the cells that become absent

-- the cells of a domain with these indices, besides its object
abbrev parts : Name → DomainKind → List Index → List Cell
parts d (Rectangular rank) is = Shape d ∷ Mapping d ∷ map (In d) is
parts d (Sparse parent rank) is = Use parent d ∷ map (Member d) is
parts d (Associative type) is = map (Member d) is

ended_all : (d : Name) (kind : DomainKind) (is : List Index) → dropped_domain_cells d kind is ≡ clear_all (Object d ∷ parts d kind is)
ended_all d (Rectangular rank) is = refl
ended_all d (Sparse parent rank) is = refl
ended_all d (Associative type) is = refl

-- a cell that is one of them is absent; another one holds what it held
after-cleared : (xs : List Cell) (c : Cell) (o : Option Value) → after cell_cmp (clear_all xs) c o ≡ cond (list_any (eq_by_cmp cell_cmp c) xs) None o
after-cleared [] c o = refl
after-cleared (x ∷ xs) c o =
    after-cleared xs c (cond (eq_by_cmp cell_cmp c x) None o)
    ∙ cond-or (eq_by_cmp cell_cmp c x) (list_any (eq_by_cmp cell_cmp c) xs) None o

-- the object whose cell it is
abbrev owner : Cell → Name
owner (Object n) = n
owner (Shape n) = n
owner (In n i) = n
owner (Member n i) = n
owner (Mapping n) = n
owner (Use e n) = n
owner (Implicit n) = n
owner (Element n i) = n

abbrev AreOf : Name → List Cell → Type 0
AreOf d xs = AllByRecursion (λ x. owner x ≡ d) xs

column_of : (make : Index → Cell) (d : Name) (is : List Index) → ((i : Index) → owner (make i) ≡ d) → AreOf d (map make is)
column_of make d [] of = tt
column_of make d (i ∷ is) of = (of i, column_of make d is of)

parts_of : (d : Name) (kind : DomainKind) (is : List Index) → AreOf d (parts d kind is)
parts_of d (Rectangular rank) is = (refl, (refl, column_of (In d) d is (λ i. refl)))
parts_of d (Sparse parent rank) is = (refl, column_of (Member d) d is (λ i. refl))
parts_of d (Associative type) is = column_of (Member d) d is (λ i. refl)

-- a cell that is one of some of an object is of it
owner_is : (d : Name) (c : Cell) (xs : List Cell) → AreOf d xs → list_any (eq_by_cmp cell_cmp c) xs ≡ true → owner c ≡ d
owner_is d c [] of there = cc
owner_is d c (x ∷ xs) of there = elim (eq_by_cmp cell_cmp c x) as
    (λ b. eq_by_cmp cell_cmp c x ≡ b → (b || list_any (eq_by_cmp cell_cmp c) xs) ≡ true → owner c ≡ d) [
      | true ↦ λ same _. ap owner (same_key cell_order c x same) ∙ of.0
      | false ↦ λ other later. owner_is d c xs of.1 later
    ] refl there

-- ---- nothing else stands in cells of the domain

first_there : (a b : Bool) → a ≡ true → (a || b) ≡ false → ⊥
first_there true b e none = cc
first_there false b e none = cc

-- an index whose cell is none of a column of them is none of theirs
no_index : (make : Name → Index → Cell) (d : Name) (i : Index) (is : List Index) →
    ((is : List Index) → list_any (λ j. eq_by_cmp cell_cmp (make d i) (make d j)) is ≡ (is_same_name d d && has is i))
    → list_any (eq_by_cmp cell_cmp (make d i)) (map (make d) is) ≡ false → has is i ≡ false
no_index make d i is column none =
    ap (λ b. b && has is i) (sym (itself d)) ∙ sym (column is) ∙ sym (list_any-map (eq_by_cmp cell_cmp (make d i)) (make d) is) ∙ none

-- what may be absent or present is absent where its index is none of theirs
absent : (o : Option Value) (b : Bool) (listed : Bool) → o ≡ present_if b → (o ≡ Some Present → listed ≡ true) → listed ≡ false → o ≡ None
absent o true listed is all none = let no : true ≡ false = sym (all is) ∙ none in cc
absent o false listed is all none = is

is_present : (s : Cells) (kind : Option DomainKind) (i : Index) (o : Option Value) → IsMember s kind i o → o ≡ present_if (is_some o)
is_present s kind i None m = refl
is_present s kind i (Some v) m = ap Some m.0

inside_present : (s : Cells) (h : IsWellFormed s) (d : Name) (i : Index) → get s (In d i) ≡ present_if (is_some (get s (In d i)))
inside_present s h d i = rw (h.insides d i) (by (ranges_in (get s (Shape d))))
  where
    by : (o : Option (List Range)) → inside_of o i ≡ present_if (is_some (inside_of o i))
    by None = refl
    by (Some rs) = elim (has (indices rs) i) as (λ b. present_if b ≡ present_if (is_some (present_if b))) [ true ↦ refl | false ↦ refl ]

module _ (s : Cells) (d : Name) (h : IsWellFormed s) where
  -- the cell is one of the domain's object and parts, or absent
  abbrev IsTold : DomainKind → List Index → Cell → Type 0
  IsTold kind is c = list_any (eq_by_cmp cell_cmp c) (Object d ∷ parts d kind is) ≡ false → get s c ≡ None

  object_told : (kind : DomainKind) (is : List Index) → IsTold kind is (Object d)
  object_told kind is none = absurd (first_there (is_same_name d d) _ (itself d) none)

  shape_told : (kind : DomainKind) (is : List Index) → IsShape (Some kind) (get s (Shape d)) → IsTold kind is (Shape d)
  shape_told (Rectangular rank) is shape none = absurd (first_there (is_same_name d d) _ (itself d) none)
  shape_told (Sparse parent rank) is shape none = shape
  shape_told (Associative type) is shape none = shape

  mapping_told : (kind : DomainKind) (is : List Index) → HasMapping (Some kind) (get s (Mapping d)) → IsTold kind is (Mapping d)
  mapping_told (Rectangular rank) is mapping none = absurd (first_there (is_same_name d d) _ (itself d) none)
  mapping_told (Sparse parent rank) is mapping none = mapping
  mapping_told (Associative type) is mapping none = mapping

  -- every index that it has is among them
  abbrev AreAll : DomainKind → List Index → Type 0
  AreAll kind is = (i : Index) → get s (index_cell (kind_of kind) d i) ≡ Some Present → has is i ≡ true

  inside_told : (kind : DomainKind) (is : List Index) (i : Index) → AreAll kind is → IsShape (Some kind) (get s (Shape d)) → IsTold kind is (In d i)
  inside_told (Rectangular rank) is i all shape none = absent (get s (In d i)) (is_some (get s (In d i))) (has is i) (inside_present s h d i) (all i)
      (no_index In d i is (in_column (slice_cmp nat_cmp d d) i) none)
  inside_told (Sparse parent rank) is i all shape none = h.insides d i ∙ ap (λ o. inside_of (ranges_in o) i) shape
  inside_told (Associative type) is i all shape none = h.insides d i ∙ ap (λ o. inside_of (ranges_in o) i) shape

  no_member_of_ranges : (rank : ℕ) (i : Index) (o : Option Value) → IsMember s (Some (Rectangular rank)) i o → o ≡ None
  no_member_of_ranges rank i None m = refl
  no_member_of_ranges rank i (Some v) m = absurd m.1

  member_told : (kind : DomainKind) (is : List Index) (i : Index) → AreAll kind is → IsMember s (Some kind) i (get s (Member d i)) → IsTold kind is (Member d i)
  member_told (Rectangular rank) is i all member none = no_member_of_ranges rank i (get s (Member d i)) member
  member_told (Sparse parent rank) is i all member none = absent (get s (Member d i)) (is_some (get s (Member d i))) (has is i)
      (is_present s (Some (Sparse parent rank)) i (get s (Member d i)) member) (all i) (no_index Member d i is (in_column (slice_cmp nat_cmp d d) i) none)
  member_told (Associative type) is i all member none = absent (get s (Member d i)) (is_some (get s (Member d i))) (has is i)
      (is_present s (Some (Associative type)) i (get s (Member d i)) member) (all i) (no_index Member d i is (in_column (slice_cmp nat_cmp d d) i) none)

  use_told : (kind : DomainKind) (is : List Index) (e : Name) → get s (Use e d) ≡ use_of e (Some (Domain kind)) → IsTold kind is (Use e d)
  use_told (Rectangular rank) is e used none = used
  use_told (Associative type) is e used none = used
  use_told (Sparse parent rank) is e used none = used ∙ elim (is_same_name e parent) as
      (λ b. is_same_name e parent ≡ b → elim b as (λ _. Option Value) [ true ↦ Some (Bound BoundSparse) | false ↦ None ] ≡ None) [
        | true ↦ λ same. absurd (first_there _ _ (second_first (slice_cmp nat_cmp e parent) (slice_cmp nat_cmp d d) ∙
            ap (λ b. b && is_same_name e parent) (itself d) ∙ same) none)
        | false ↦ λ other. refl
      ] refl

  module _ (kind : DomainKind) (is : List Index) (there : domain_at s d ≡ Some kind) (all : AreAll kind is) where
    object : get s (Object d) ≡ Some (Domain kind)
    object = domain_in-is (get s (Object d)) kind there

    shape : IsShape (Some kind) (get s (Shape d))
    shape = subst (λ o. IsShape o (get s (Shape d))) there (h.shapes d)

    told : (c : Cell) → owner c ≡ d → IsTold kind is c
    told (Object n) e = subst (λ (m : Name). IsTold kind is (Object m)) (sym e) (object_told kind is)
    told (Shape n) e = subst (λ (m : Name). IsTold kind is (Shape m)) (sym e) (shape_told kind is shape)
    told (In n i) e = subst (λ (m : Name). IsTold kind is (In m i)) (sym e) (inside_told kind is i all shape)
    told (Member n i) e = subst (λ (m : Name). IsTold kind is (Member m i)) (sym e)
        (member_told kind is i all (subst (λ o. IsMember s o i (get s (Member d i))) there (h.members d i)))
    told (Mapping n) e = subst (λ (m : Name). IsTold kind is (Mapping m)) (sym e)
        (mapping_told kind is (subst (λ o. HasMapping o (get s (Mapping d))) there (h.mappings d)))
    told (Use f n) e = subst (λ (m : Name). IsTold kind is (Use f m)) (sym e) (use_told kind is f (h.uses f d ∙ ap (use_of f) object))
    told (Implicit n) e = subst (λ (m : Name). IsTold kind is (Implicit m)) (sym e)
        (λ none. subst (λ o. IsImplicit (array_in o) (get s (Implicit d))) object (h.implicits d))
    told (Element n i) e = subst (λ (m : Name). IsTold kind is (Element m i)) (sym e)
        (λ none. subst (λ o. IsElement (is_index_of_array s (array_in o) i) (get s (Element d i))) object (h.elements d i))

    -- afterwards the cells of the domain are absent, and the others hold what they held
    all_gone : (c : Cell) → get (apply (dropped_domain_cells d kind is) s) c ≡ cond (is_same_name d (owner c)) None (get s c)
    all_gone c =
        let xs : List Cell = Object d ∷ parts d kind is in
        get-apply cell_order (dropped_domain_cells d kind is) s c
        ∙ ap (λ ys. after cell_cmp ys c (get s c)) (ended_all d kind is)
        ∙ after-cleared xs c (get s c)
        ∙ either (list_any (eq_by_cmp cell_cmp c) xs) (is_same_name d (owner c)) (get s c)
        (λ one. ap (is_same_name d) (owner_is d c xs (refl, parts_of d kind is) one) ∙ itself d)
        (λ same none. told c (sym (same_name d (owner c) same)) none)
      where
        either : (b same : Bool) (o : Option Value) → (b ≡ true → same ≡ true) → (same ≡ true → b ≡ false → o ≡ None) → cond b None o ≡ cond same None o
        either true same o one gone = rw (one refl) refl
        either false true o one gone = gone refl refl
        either false false o one gone = refl

-- ---- a workbook without the cells of an object to which nothing is bound

module _ (s t : Cells) (d : Name) (h : IsWellFormed s) (unbound : (n : Name) → get s (Use d n) ≡ None)
    (at : (c : Cell) → get t c ≡ cond (is_same_name d (owner c)) None (get s c)) where
  elsewhere : (c : Cell) → is_same_name d (owner c) ≡ false → get t c ≡ get s c
  elsewhere c other = at c ∙ ap (λ b. cond b None (get s c)) other

  was : (n : Name) (v : Value) → get t (Object n) ≡ Some v → get s (Object n) ≡ Some v
  was n v is = elim (is_same_name d n) as (λ b. cond b None (get s (Object n)) ≡ Some v → get s (Object n) ≡ Some v) [
    | true ↦ λ none. absurd (none-some v none)
    | false ↦ λ same. same
  ] (sym (at (Object n)) ∙ is)

  other_than : (b : Bool) (how : Binding) → elim b as (λ _. Option Value) [ true ↦ Some (Bound how) | false ↦ None ] ≡ None → b ≡ false
  other_than true how none = cc
  other_than false how none = refl

  -- an array's domain is another one, and so is a sparse domain's parent
  over_other : (n e : Name) (kind : Kind) → get s (Object n) ≡ Some (Array e kind) → is_same_name d e ≡ false
  over_other n e kind is = other_than (is_same_name d e) BoundArray (ap (use_of d) (sym is) ∙ sym (h.uses d n) ∙ unbound n)

  in_other : (n parent : Name) (rank : ℕ) → get s (Object n) ≡ Some (Domain (Sparse parent rank)) → is_same_name d parent ≡ false
  in_other n parent rank is = other_than (is_same_name d parent) BoundSparse (ap (use_of d) (sym is) ∙ sym (h.uses d n) ∙ unbound n)

  object_kept : (n : Name) (v : Value) → get s (Object n) ≡ Some v → IsObject s v → IsObject t v
  object_kept n (Domain (Rectangular rank)) is whole = whole
  object_kept n (Domain (Sparse parent rank)) is whole = ap domain_in (elsewhere (Object parent) (in_other n parent rank is)) ∙ whole
  object_kept n (Domain (Associative type)) is whole = whole
  object_kept n (Array e kind) is whole = ap (λ o. option_map kind_of (domain_in o)) (elsewhere (Object e) (over_other n e kind is)) ∙ whole
  object_kept n (Ranges rs) is whole = whole
  object_kept n (Mapping m) is whole = whole
  object_kept n Present is whole = whole
  object_kept n (Bound how) is whole = whole
  object_kept n (Number x) is whole = whole

  without_it : IsWellFormed t
  without_it =
      record {
        names = λ n v is. h.names n v (was n v is);
        objects = λ n v is. object_kept n v (was n v is) (h.objects n v (was n v is));
        shapes = λ n. rw (at (Object n), at (Shape n)) (elim (is_same_name d n) as
            (λ b. IsShape (domain_in (cond b None (get s (Object n)))) (cond b None (get s (Shape n)))) [
              | true ↦ refl
              | false ↦ h.shapes n
            ]);
        insides = λ n i. rw (at (In n i), at (Shape n)) (elim (is_same_name d n) as
            (λ b. cond b None (get s (In n i)) ≡ inside_of (ranges_in (cond b None (get s (Shape n)))) i) [
              | true ↦ refl
              | false ↦ h.insides n i
            ]);
        members = λ n i. rw (at (Object n), at (Member n i)) (elim (is_same_name d n) as
            (λ b. IsMember t (domain_in (cond b None (get s (Object n)))) i (cond b None (get s (Member n i)))) [
              | true ↦ tt
              | false ↦ IsMember-kept s t (domain_at s n) i (get s (Member n i)) (λ parent rank over there here.
                  elsewhere (In parent i) (in_other n parent rank (domain_in-is (get s (Object n)) (Sparse parent rank) over)) ∙ here) (h.members n i)
            ]);
        mappings = λ n. rw (at (Object n), at (Mapping n)) (elim (is_same_name d n) as
            (λ b. HasMapping (domain_in (cond b None (get s (Object n)))) (cond b None (get s (Mapping n)))) [
              | true ↦ refl
              | false ↦ h.mappings n
            ]);
        uses = λ e n. rw (at (Use e n), at (Object n)) (elim (is_same_name d n) as
            (λ b. cond b None (get s (Use e n)) ≡ use_of e (cond b None (get s (Object n)))) [
              | true ↦ refl
              | false ↦ h.uses e n
            ]);
        implicits = λ a. rw (at (Object a), at (Implicit a)) (elim (is_same_name d a) as
            (λ b. IsImplicit (array_in (cond b None (get s (Object a)))) (cond b None (get s (Implicit a)))) [
              | true ↦ refl
              | false ↦ h.implicits a
            ]);
        elements = λ a i. rw (at (Object a), at (Element a i)) (elim
            (is_same_name d a) as (λ b. IsElement (is_index_of_array t (array_in (cond b None (get s (Object a)))) i) (cond b None (get s (Element a i)))) [
              | true ↦ refl
              | false ↦ rw (indices_same s t (array_at s a) i (λ e kind over.
                  let other : is_same_name d e ≡ false = over_other a e kind (array_in-is (get s (Object a)) (e, kind) over) in
                  index_cell_same s t kind e i (elsewhere (In e i) other) (elsewhere (Member e i) other))) (h.elements a i)
            ]);
      }

pub keeps_drops : KeepsDrops
keeps_drops s d kind is h there unbound all = without_it s (apply (dropped_domain_cells d kind is) s) d h unbound (all_gone s d h kind is there all)
