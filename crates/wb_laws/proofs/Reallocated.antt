-- A change of a domain's indices reallocates the arrays over it.
use Rattle.std.proofs.Common.{◌≡◌, ⊎_elim, ℤ, pos, Bool, true, false, not, cond, ◌&&◌, ◌||◌, List, [], ◌∷◌, Option, Some, None, is_some, refl, sym, ap, subst, ◌∙◌}
use Rattle.std.specs.Prelude.{option_map, option_and_then}
use Rattle.std.specs.FinMap.{get, find}
use Rattle.std.specs.List.{Contains}
use Rattle.std.specs.Option.{option_map_or}
use Rattle.std.specs.Ordering.{is_eq}
use Rattle.wb_arrays.specs.Elements.{value_at}
use Rattle.wb_range.specs.Lookup as by_order
use Rattle.wb_cells.specs.declared.cells.cell.Cell.TheVariants.{Object, Shape, In, Member, Use, Implicit, Element}
use Rattle.wb_cells.specs.declared.cells.kind.DomainKind.{DomainKind}
use Rattle.wb_cells.specs.declared.cells.kind.DomainKind.TheVariants.{Rectangular, Sparse, Associative}
use Rattle.wb_cells.specs.declared.cells.kind.Kind.{Kind}
use Rattle.wb_cells.specs.declared.cells.kind.Kind.TheVariants.{Rectangular as OverRectangular, Sparse as OverSparse, Associative as OverAssociative}
use Rattle.wb_cells.specs.declared.cells.value.Binding.TheVariants.{Array as BoundArray}
use Rattle.wb_cells.specs.declared.cells.value.Value.{Value}
use Rattle.wb_cells.specs.declared.cells.value.Value.TheVariants.{Present, Bound, Number}
use Rattle.wb_cells.specs.declared.values.index.Index.{Index}
use Rattle.wb_cells.specs.Cells.{Name, Cells, index_cmp, is_same_name}
use Rattle.wb_cells.specs.Kinds.{kind_of}
use Rattle.wb_cells.specs.Locales.{has_index, is_index_at}
use Rattle.wb_cells.specs.Readers.{elements, members, indices_of, listed_at}
use Rattle.wb_cells.specs.Shapes.{indices}
use Rattle.wb_cells.specs.WellFormed.{IsWellFormed, IsShape, IsElement, IsImplicit, domain_at, domain_in, array_at, index_cell, inside_of, present_if, ranges_in, has, use_of}
use Rattle.wb_cells.specs.WellFormed.{is_index_of_array}
use Rattle.wb_reshape.specs.Laws.{AreFills}
use Rattle.wb_reshape.specs.Resized.{without}
use Rattle.wb_reshape.proofs.Exchanged.{has_ranges, exchanged_at}
use Rattle.wb_reshape.proofs.Resized.{IsResized}
use Rattle.wb_reshape.proofs.States.{itself, array_in-is, array_over}
use Rattle.wb_reshape.proofs.Without.{has-without}
use Rattle.wb_edit.proofs.Elements.{number_of, find_element}
use Rattle.wb_edit.proofs.Members.{members_has}
use Rattle.wb_laws.specs.Reshaped.{IsReallocated, IsReshaped}

-- ---- words of the array's library, and of the workbook's

found : (i : Index) (es : List (Index × ℤ)) → value_at index_cmp es i ≡ find index_cmp i es
found i [] = refl
found i (e ∷ es) = ap (λ o. cond (is_eq (index_cmp i e.0)) (Some e.1) o) (found i es)

pub element_is : (s : Cells) (a : Name) (i : Index) → value_at index_cmp (elements s a) i ≡ option_and_then number_of (get s (Element a i))
element_is s a i = found i (elements s a) ∙ find_element s a i

or_rest : (b c : Bool) → cond b true c ≡ (b || c)
or_rest true c = refl
or_rest false c = refl

has_is : (xs : List Index) (i : Index) → by_order.has index_cmp xs i ≡ has xs i
has_is [] i = refl
has_is (x ∷ xs) i = or_rest (is_eq (index_cmp i x)) (by_order.has index_cmp xs i) ∙ ap (λ b. is_eq (index_cmp i x) || b) (has_is xs i)

-- ---- the indices of a domain, as a list

present : (b : Bool) → b ≡ is_some (present_if b)
present true = refl
present false = refl

-- the list has exactly the indices of the domain of a name
abbrev pub Lists : Cells → Name → List Index → Type 0
Lists s d xs = (listed_at s d ≡ Some xs) × ((i : Index) → has xs i ≡ is_index_at s d i)

listed_by : (s : Cells) (d : Name) (kind : DomainKind) → IsWellFormed s → domain_at s d ≡ Some kind →
    (xs : List Index) × (indices_of s d kind ≡ Some xs) × ((i : Index) → has xs i ≡ has_index s d i kind)
listed_by s d (Rectangular rank) h is =
    let shape = subst (λ (o : Option DomainKind). IsShape o (get s (Shape d))) is (h.shapes d) in (
      indices shape.0,
      ap (λ v. option_map indices (ranges_in v)) shape.1,
      λ i. present (has (indices shape.0) i) ∙ ap (λ v. is_some (inside_of (ranges_in v) i)) (sym shape.1) ∙ ap (λ v. is_some v) (sym (h.insides d i)),
    )
listed_by s d (Sparse parent rank) h is = (members s d, refl, λ i. sym (members_has s d i))
listed_by s d (Associative type) h is = (members s d, refl, λ i. sym (members_has s d i))

pub index_by : (s : Cells) (d : Name) (kind : DomainKind) (i : Index) → domain_at s d ≡ Some kind → is_index_at s d i ≡ has_index s d i kind
index_by s d kind i is = ap (λ o. option_map_or (has_index s d i) o false) is

pub listed : (s : Cells) (d : Name) (kind : DomainKind) → IsWellFormed s → domain_at s d ≡ Some kind → (xs : List Index) × Lists s d xs
listed s d kind h is =
    let l = listed_by s d kind h is in
    (l.0, (ap (λ o. option_and_then (indices_of s d) o) is ∙ l.1, λ i. l.2 i ∙ sym (index_by s d kind i is)))

-- ---- after a change

same_pair : (x y : Name × Kind) → Some x ≡ Some y → x ≡ y
same_pair x y e = cc

implicit_is : (d : Name) (kind : Kind) (v : Option Value) → IsImplicit (Some (d, kind)) v → (z : ℤ) × (v ≡ Some (Number z))
implicit_is d (OverRectangular rank) v is = (pos 0, is)
implicit_is d (OverSparse rank) v is = (is.0, is.1)
implicit_is d (OverAssociative type) v is = (pos 0, is)

-- what an index cell, and an element, are after it, by whether the index is new and was there
exchanged_index : (is_new was : Bool) (o : Option Value) → is_some o ≡ was →
    is_some (cond (is_new && not was) (Some Present) (cond (was && not is_new) None o)) ≡ is_new
exchanged_index true true o e = e
exchanged_index true false o e = refl
exchanged_index false true o e = refl
exchanged_index false false o e = e

exchanged_number : (is_new was : Bool) (v : ℤ) (o : Option Value) → IsElement was o →
    option_and_then number_of (cond (is_new && not was) (Some (Number v)) (cond (was && not is_new) None o))
    ≡ cond is_new (cond was (option_and_then number_of o) (Some v)) None
exchanged_number true true v o e = refl
exchanged_number true false v o e = refl
exchanged_number false true v o e = refl
exchanged_number false false v o e = ap (option_and_then number_of) e

module _ (s t : Cells) (d : Name) (kind : DomainKind) (fills : List (Name × ℤ)) (old new : List Index) (h : IsWellFormed s) (g : IsWellFormed t)
    (there : domain_at s d ≡ Some kind) (were : (i : Index) → has old i ≡ is_index_at s d i)
    (k : IsResized s t (kind_of kind) d fills (without new old) (without old new)) where
  still : domain_at t d ≡ Some kind
  still = ap domain_in (k.object d) ∙ there

  -- an index cell of the domain
  index_after : (other : DomainKind) (i : Index) → other ≡ kind →
      get t (index_cell (kind_of other) d i) ≡ exchanged_at (without new old) (without old new) Present i (get s (index_cell (kind_of other) d i))
  index_after (Rectangular rank) i same =
      subst (λ (x : DomainKind). get t (In d i) ≡ cond (has_ranges (kind_of x) && is_same_name d d) (exchanged_at (without new old) (without old new) Present i (get s (In d i))) (get s (In d i)))
      (sym same) (k.inside d i) ∙ ap (λ b. cond b (exchanged_at (without new old) (without old new) Present i (get s (In d i))) (get s (In d i))) (itself d)
  index_after (Sparse parent rank) i same =
      subst (λ (x : DomainKind). get t (Member d i) ≡ cond (not (has_ranges (kind_of x)) && is_same_name d d) (exchanged_at (without new old) (without old new) Present i (get s (Member d i))) (get s (Member d i)))
      (sym same) (k.member d i) ∙ ap (λ b. cond b (exchanged_at (without new old) (without old new) Present i (get s (Member d i))) (get s (Member d i))) (itself d)
  index_after (Associative type) i same =
      subst (λ (x : DomainKind). get t (Member d i) ≡ cond (not (has_ranges (kind_of x)) && is_same_name d d) (exchanged_at (without new old) (without old new) Present i (get s (Member d i))) (get s (Member d i)))
      (sym same) (k.member d i) ∙ ap (λ b. cond b (exchanged_at (without new old) (without old new) Present i (get s (Member d i))) (get s (Member d i))) (itself d)

  was_index : (i : Index) → is_some (get s (index_cell (kind_of kind) d i)) ≡ has old i
  was_index i = sym (index_by s d kind i there) ∙ sym (were i)

  -- the domain has the new indices
  now_index : (i : Index) → is_index_at t d i ≡ has new i
  now_index i =
      index_by t d kind i still
      ∙ ap (λ v. is_some v) (index_after kind i refl)
      ∙ ap (λ b. is_some (cond b (Some Present) (cond (has (without new old) i) None (get s (index_cell (kind_of kind) d i))))) (has-without old new i)
      ∙ ap (λ b. is_some (cond (has new i && not (has old i)) (Some Present) (cond b None (get s (index_cell (kind_of kind) d i))))) (has-without new old i)
      ∙ exchanged_index (has new i) (has old i) (get s (index_cell (kind_of kind) d i)) (was_index i)

  element_after : (a : Name) (i : Index) (v : ℤ) → array_at s a ≡ Some (d, kind_of kind) →
      get t (Element a i) ≡ exchanged_at (without new old) (without old new) (Number v) i (get s (Element a i)) →
      option_and_then number_of (get t (Element a i)) ≡ cond (has new i) (cond (has old i) (option_and_then number_of (get s (Element a i))) (Some v)) None
  element_after a i v over is =
      ap (option_and_then number_of) (
      is
      ∙ ap (λ b. cond b (Some (Number v)) (cond (has (without new old) i) None (get s (Element a i)))) (has-without old new i)
      ∙ ap (λ b. cond (has new i && not (has old i)) (Some (Number v)) (cond b None (get s (Element a i)))) (has-without new old i))
      ∙ exchanged_number (has new i) (has old i) v (get s (Element a i)) (
      subst (λ b. IsElement b (get s (Element a i))) (was_index i) (
      subst (λ o. IsElement (is_index_of_array s o i) (get s (Element a i))) over (h.elements a i)))

  module _ (are : AreFills s d fills) (brought : (a : Name) (v : ℤ) → Contains fills (a, v) → get s (Implicit a) ≡ Some (Number v)) where
    -- what is bound to the domain
    bound_to : (a : Name) (other : Kind) → array_at s a ≡ Some (d, other) → get s (Use d a) ≡ Some (Bound BoundArray)
    bound_to a other over =
        h.uses d a ∙ ap (use_of d) (array_in-is (get s (Object a)) (d, other) over)
        ∙ ap (λ b. elim b as (λ _. Option Value) [ true ↦ Some (Bound BoundArray) | false ↦ None ]) (itself d)

    kind_over : (a : Name) (other : Kind) → array_at s a ≡ Some (d, other) → array_at s a ≡ Some (d, kind_of kind)
    kind_over a other over = array_over s h d kind there a (bound_to a other over)

    -- the array's number for new indices
    brought_to : (a : Name) (i : Index) (z : ℤ) → array_at s a ≡ Some (d, kind_of kind) → get s (Use d a) ≡ Some (Bound BoundArray) →
        get s (Implicit a) ≡ Some (Number z) → get t (Element a i) ≡ exchanged_at (without new old) (without old new) (Number z) i (get s (Element a i))
    brought_to a i z over used implicit = ⊎_elim
        (λ none. let no : true ≡ false = sym (are.all a used) ∙ none.0 in cc)
        (λ some.
        let same : Some (Number some.0) ≡ Some (Number z) = sym (brought a some.0 some.1) ∙ implicit in
        let number : some.0 ≡ z = cc in
        subst (λ v. get t (Element a i) ≡ exchanged_at (without new old) (without old new) (Number v) i (get s (Element a i))) number some.2)
        (k.element a i)

    reallocated_array : (a : Name) (other : Kind) → array_at s a ≡ Some (d, other) → IsReallocated s t d a
    reallocated_array a other over =
        let over_d : array_at s a ≡ Some (d, kind_of kind) = kind_over a other over in
        let before = listed s d kind h there in
        let after = listed t d kind g still in
        let implicit = implicit_is d (kind_of kind) (get s (Implicit a)) (subst (λ o. IsImplicit o (get s (Implicit a))) over_d (h.implicits a)) in (
          before.0,
          after.0,
          implicit.0,
          before.1.0,
          after.1.0,
          implicit.1,
          λ i.
              let has_old : has old i ≡ by_order.has index_cmp before.0 i = were i ∙ sym (before.1.1 i) ∙ sym (has_is before.0 i) in
              let has_new : has new i ≡ by_order.has index_cmp after.0 i = sym (now_index i) ∙ sym (after.1.1 i) ∙ sym (has_is after.0 i) in
              element_is t a i
              ∙ element_after a i implicit.0 over_d (brought_to a i implicit.0 over_d (bound_to a other over) implicit.1)
              ∙ ap (λ b. cond b (cond (has old i) (option_and_then number_of (get s (Element a i))) (Some implicit.0)) None) has_new
              ∙ ap (λ b. cond (by_order.has index_cmp after.0 i) (cond b (option_and_then number_of (get s (Element a i))) (Some implicit.0)) None) has_old
              ∙ ap (λ o. cond (by_order.has index_cmp after.0 i) (cond (by_order.has index_cmp before.0 i) o (Some implicit.0)) None) (sym (element_is s a i)),
        )

    other_array : (a e : Name) (other : Kind) → array_at s a ≡ Some (e, other) → is_same_name e d ≡ false → (i : Index) → get t (Element a i) ≡ get s (Element a i)
    other_array a e other over apart i = ⊎_elim
        (λ untouched. untouched.1)
        (λ some.
        let over_d : array_at s a ≡ Some (d, kind_of kind) = array_over s h d kind there a (are.only a some.0 some.1) in
        let both : Some (e, other) ≡ Some (d, kind_of kind) = sym over ∙ over_d in
        let name : e ≡ d = ap (λ (p : Name × Kind). p.0) (same_pair (e, other) (d, kind_of kind) both) in
        let same : is_same_name e d ≡ true = ap (λ n. is_same_name n d) name ∙ itself d in
        let no : true ≡ false = sym same ∙ apart in cc)
        (k.element a i)

    pub reshaped_by : (is_new : Index → Bool) → ((i : Index) → has new i ≡ is_new i) → IsReshaped s t d is_new
    reshaped_by is_new are_new = record {
      there = ap (λ o. is_some o) there;
      indices = λ i. now_index i ∙ are_new i;
      arrays = reallocated_array;
      others = other_array;
      objects = k.object;
    }
