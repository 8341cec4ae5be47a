-- What the lines of a well-formed workbook tell of its cells is what stands in them.
use Rattle.std.proofs.Common.{◌≡◌, ℕ, suc, ℤ, pos, Bool, true, false, ◌||◌, cond, List, [], ◌∷◌, length, Option, Some, None, is_some, option_map, unwrap_or}
use Rattle.std.proofs.Common.{refl, sym, ap, ◌∙◌, subst}
use Rattle.std.specs.Cmp.{Equal-is}
use Rattle.std.specs.FinMap.{get}
use Rattle.std.specs.List.{filter_map, cons_option, zip}
use Rattle.wb_dist.specs.Maps.{whole}
use Rattle.wb_cells.specs.declared.cells.cell.Cell.{Cell}
use Rattle.wb_cells.specs.declared.cells.cell.Cell.TheVariants.{Object, Shape, In, Member, Mapping, Use, Implicit, Element}
use Rattle.wb_cells.specs.declared.cells.kind.DomainKind.{DomainKind}
use Rattle.wb_cells.specs.declared.cells.kind.DomainKind.TheVariants as domains
use Rattle.wb_cells.specs.declared.cells.kind.Kind.{Kind}
use Rattle.wb_cells.specs.declared.cells.kind.Kind.TheVariants.{Rectangular, Sparse, Associative}
use Rattle.wb_cells.specs.declared.cells.value.Binding.TheVariants as bindings
use Rattle.wb_cells.specs.declared.cells.value.Value.{Value}
use Rattle.wb_cells.specs.declared.cells.value.Value.TheVariants as values
use Rattle.wb_cells.specs.declared.values.index.Index.{Index}
use Rattle.wb_cells.specs.Cells.{Name, Cells, index_cmp, index_cmp-IsAntisymmetric, is_same_name, is_same_index}
use Rattle.wb_cells.specs.Kinds.{kind_of}
use Rattle.wb_cells.specs.Locales.{mapping_in}
use Rattle.wb_cells.specs.Readers.{indices_at}
use Rattle.wb_cells.specs.Shapes.{Range, indices}
use Rattle.wb_cells.specs.WellFormed.{IsWellFormed, IsShape, HasMapping, IsMember, MayHave, IsImplicit, IsElement, domain_in, domain_at, array_in, ranges_in}
use Rattle.wb_cells.specs.WellFormed.{inside_of, use_of, has, present_if, is_index_of_array}
use Rattle.wb_text.specs.Lines.{indices_in, number_in, element_at, elements_at, implicit_in}
use Rattle.wb_text.specs.Said.{Line, first_line_of, domain_said, said_in, said}
use Rattle.wb_text.proofs.LineOfName.{line_of_name}
use Rattle.wb_text.proofs.Readable.{Each}
use Rattle.wb_text.proofs.ReadIndices.{some_same}
use Rattle.wb_text.proofs.SameCells.{all_there, element_by}
use Rattle.wb_text.proofs.SameDomains.{none_some, domain_object, domain_line, rank_known}
use Rattle.wb_text.proofs.SameMembers.{member_listed}
use Rattle.wb_text.specs.FromLines.Inserted.{or_else, last_of}
use Rattle.wb_text.specs.FromLines.Told.{ranges_told, rank_told, kind_told, indices_told, implicit_told, is_domain, told_by, told}

cond_else : (b : Bool) (v : Value) → cond b (Some v) None ≡ elim b [ true ↦ Some v | false ↦ None ]
cond_else true v = refl
cond_else false v = refl

-- ---- a column of elements

there_is : (o : Option ℤ) → is_some o ≡ true → (z : ℤ) × (o ≡ Some z)
there_is None e = cc
there_is (Some z) e = (z, refl)

-- each index has a value by the function
abbrev pub HasEach : (Index → Option ℤ) → List Index → Type 0
HasEach f is = Each (λ i. is_some (f i) ≡ true) is

pub column_length : (f : Index → Option ℤ) (is : List Index) → HasEach f is → length is ≡ length (filter_map f is)
column_length f [] h = refl
column_length f (i ∷ is) h =
    ap suc (column_length f is h.1) ∙ sym (ap (λ o. length (cons_option o (filter_map f is))) (there_is (f i) h.0).1)

one_last : (f : Index → Option ℤ) (i j : Index) (b : Bool) (z : ℤ) → f j ≡ Some z →
    or_else (cond b (f i) None) (cond (is_same_index i j) (Some z) None) ≡ cond (is_same_index i j || b) (f i) None
one_last f i j b z e =
    elim (is_same_index i j) as (λ t. is_same_index i j ≡ t → or_else (cond b (f i) None) (cond t (Some z) None) ≡ cond (t || b) (f i) None) [
      | true ↦ λ t.
          let same : f i ≡ Some z = ap f (index_cmp-IsAntisymmetric i j ((Equal-is _).0 t)) ∙ e in
          ap (λ o. or_else (cond b o None) (Some z)) same ∙ either b ∙ sym same
      | false ↦ λ t. refl
    ] refl
  where
    either : (t : Bool) → or_else (cond t (Some z) None) (Some z) ≡ Some z
    either true = refl
    either false = refl

pub column_last : (f : Index → Option ℤ) (is : List Index) (i : Index) → HasEach f is →
    last_of index_cmp (zip is (filter_map f is)) i ≡ cond (has is i) (f i) None
column_last f [] i h = refl
column_last f (j ∷ is) i h =
    let one = there_is (f j) h.0 in
    ap (λ o. last_of index_cmp (zip (j ∷ is) (cons_option o (filter_map f is))) i) one.1
    ∙ ap (λ o. or_else o (cond (is_same_index i j) (Some one.0) None)) (column_last f is i h.1)
    ∙ one_last f i j (has is i) one.0 one.1

number_back : (b : Bool) (v : Option Value) → IsElement b v → option_map (λ z. values.Number z) (cond b (number_in v) None) ≡ v
number_back true v h = ap (λ x. option_map (λ z. values.Number z) (number_in x)) h.1 ∙ sym h.1
number_back false v h = sym h

module _ (w : Cells) (well : IsWellFormed w) where
  abbrev pub ls : List Line
  ls = said w

  -- ---- rectangular domains

  pub shape_of : (d : Name) (rank : ℕ) → domain_at w d ≡ Some (domains.Rectangular rank) → IsShape (Some (domains.Rectangular rank)) (get w (Shape d))
  shape_of d rank is = subst (λ k. IsShape k (get w (Shape d))) is (well.shapes d)

  abbrev pub ranges_at : Name → List Range
  ranges_at d = unwrap_or (ranges_in (get w (Shape d))) []

  line_of_domain : (d : Name) (kind : DomainKind) → domain_at w d ≡ Some kind → first_line_of d ls ≡ Some (domain_said w d kind)
  line_of_domain d kind e = line_of_name w d ∙ domain_line w d kind e

  pub ranges_line : (d : Name) (rank : ℕ) → domain_at w d ≡ Some (domains.Rectangular rank) → ranges_told (first_line_of d ls) ≡ Some (ranges_at d)
  ranges_line d rank is = ap ranges_told (line_of_domain d (domains.Rectangular rank) is)

  pub rank_line : (d : Name) (rank : ℕ) → domain_at w d ≡ Some (domains.Rectangular rank) → rank_told (first_line_of d ls) ≡ rank
  rank_line d rank is = ap (λ o. length (unwrap_or o [])) (ranges_line d rank is) ∙ rank_known w d rank well is

  -- ---- the domain of an array

  domain_kind : (d : Name) (o : Option DomainKind) (kind : Kind) → domain_at w d ≡ o → option_map kind_of o ≡ Some kind →
      kind_told ls (first_line_of d ls) ≡ kind
  domain_kind d None kind is e = none_some kind e
  domain_kind d (Some (domains.Rectangular rank)) kind is e =
      ap (kind_told ls) (line_of_domain d (domains.Rectangular rank) is) ∙ ap Rectangular (rank_known w d rank well is) ∙ some_same (Rectangular rank) kind e
  domain_kind d (Some (domains.Sparse parent rank)) kind is e =
      ap (kind_told ls) (line_of_domain d (domains.Sparse parent rank) is)
      ∙ ap Sparse (rank_line parent rank (well.objects d _ (domain_object (get w (Object d)) (domains.Sparse parent rank) is)))
      ∙ some_same (Sparse rank) kind e
  domain_kind d (Some (domains.Associative type)) kind is e = ap (kind_told ls) (line_of_domain d (domains.Associative type) is) ∙
      some_same (Associative type) kind e

  pub kind_line : (d : Name) (kind : Kind) → option_map kind_of (domain_at w d) ≡ Some kind → kind_told ls (first_line_of d ls) ≡ kind
  kind_line d kind e = domain_kind d (domain_at w d) kind refl e

  domain_is : (d : Name) (o : Option DomainKind) (kind : Kind) → domain_at w d ≡ o → option_map kind_of o ≡ Some kind → is_domain (first_line_of d ls) ≡ true
  domain_is d None kind is e = none_some kind e
  domain_is d (Some (domains.Rectangular rank)) kind is e = ap is_domain (line_of_domain d (domains.Rectangular rank) is)
  domain_is d (Some (domains.Sparse parent rank)) kind is e = ap is_domain (line_of_domain d (domains.Sparse parent rank) is)
  domain_is d (Some (domains.Associative type)) kind is e = ap is_domain (line_of_domain d (domains.Associative type) is)

  pub is_domain_line : (d : Name) (kind : Kind) → option_map kind_of (domain_at w d) ≡ Some kind → is_domain (first_line_of d ls) ≡ true
  is_domain_line d kind e = domain_is d (domain_at w d) kind refl e

  indices_by : (d : Name) (rank : ℕ) → domain_at w d ≡ Some (domains.Rectangular rank) → indices (ranges_at d) ≡ unwrap_or (indices_at w d) []
  indices_by d rank is =
      let shape = shape_of d rank is in
      ap (λ v. indices (unwrap_or (ranges_in v) [])) shape.1 ∙ sym (ap (λ v. unwrap_or (option_map indices (ranges_in v)) []) shape.1)

  domain_indices : (d : Name) (o : Option DomainKind) (kind : Kind) → domain_at w d ≡ o → option_map kind_of o ≡ Some kind →
      indices_told (first_line_of d ls) ≡ indices_in w d kind
  domain_indices d None kind is e = none_some kind e
  domain_indices d (Some (domains.Rectangular rank)) kind is e =
      ap indices_told (line_of_domain d (domains.Rectangular rank) is) ∙ indices_by d rank is ∙ ap (indices_in w d) (some_same (Rectangular rank) kind e)
  domain_indices d (Some (domains.Sparse parent rank)) kind is e = ap indices_told (line_of_domain d (domains.Sparse parent rank) is) ∙
      ap (indices_in w d) (some_same (Sparse rank) kind e)
  domain_indices d (Some (domains.Associative type)) kind is e = ap indices_told (line_of_domain d (domains.Associative type) is) ∙
      ap (indices_in w d) (some_same (Associative type) kind e)

  pub indices_line : (d : Name) (kind : Kind) → option_map kind_of (domain_at w d) ≡ Some kind → indices_told (first_line_of d ls) ≡ indices_in w d kind
  indices_line d kind e = domain_indices d (domain_at w d) kind refl e

  -- ---- the cells of a name, by what stands under it

  object_back : (n : Name) (o : Option Value) → get w (Object n) ≡ o → told_by ls (said_in w n o) (Object n) ≡ o
  object_back n None e = refl
  object_back n (Some (values.Domain (domains.Rectangular rank))) e =
      ap (λ k. Some (values.Domain (domains.Rectangular k))) (rank_known w n rank well (ap domain_in e))
  object_back n (Some (values.Domain (domains.Sparse parent rank))) e =
      ap (λ k. Some (values.Domain (domains.Sparse parent k))) (rank_line parent rank (well.objects n _ e))
  object_back n (Some (values.Domain (domains.Associative type))) e = refl
  object_back n (Some (values.Array d kind)) e = ap (λ k. Some (values.Array d k)) (kind_line d kind (well.objects n _ e))
  object_back n (Some v) e = absurd (well.objects n _ e)

  shape_back : (n : Name) (o : Option Value) → IsShape (domain_in o) (get w (Shape n)) → told_by ls (said_in w n o) (Shape n) ≡ get w (Shape n)
  shape_back n None h = sym h
  shape_back n (Some (values.Domain (domains.Rectangular rank))) h = ap (λ v. Some (values.Ranges (unwrap_or (ranges_in v) []))) h.1 ∙ sym h.1
  shape_back n (Some (values.Domain (domains.Sparse parent rank))) h = sym h
  shape_back n (Some (values.Domain (domains.Associative type))) h = sym h
  shape_back n (Some (values.Array d kind)) h = sym h
  shape_back n (Some v) h = sym h

  inside_back : (n : Name) (i : Index) (o : Option Value) → IsShape (domain_in o) (get w (Shape n)) →
      told_by ls (said_in w n o) (In n i) ≡ inside_of (ranges_in (get w (Shape n))) i
  inside_back n i None h = sym (ap (λ v. inside_of (ranges_in v) i) h)
  inside_back n i (Some (values.Domain (domains.Rectangular rank))) h =
      ap (λ v. present_if (has (indices (unwrap_or (ranges_in v) [])) i)) h.1 ∙ sym (ap (λ v. inside_of (ranges_in v) i) h.1)
  inside_back n i (Some (values.Domain (domains.Sparse parent rank))) h = sym (ap (λ v. inside_of (ranges_in v) i) h)
  inside_back n i (Some (values.Domain (domains.Associative type))) h = sym (ap (λ v. inside_of (ranges_in v) i) h)
  inside_back n i (Some (values.Array d kind)) h = sym (ap (λ v. inside_of (ranges_in v) i) h)
  inside_back n i (Some v) h = sym (ap (λ v. inside_of (ranges_in v) i) h)

  listed_back : (kind : Option DomainKind) (i : Index) (v : Option Value) → IsMember w kind i v → present_if (is_some v) ≡ v
  listed_back kind i None h = refl
  listed_back kind i (Some v) h = ap (λ x. Some x) (sym h.0)

  none_back : (kind : Option DomainKind) (i : Index) (v : Option Value) → (MayHave w kind i → ⊥) → IsMember w kind i v → None ≡ v
  none_back kind i None never h = refl
  none_back kind i (Some v) never h = absurd (never h.1)

  member_back : (n : Name) (i : Index) (o : Option Value) → IsMember w (domain_in o) i (get w (Member n i)) →
      told_by ls (said_in w n o) (Member n i) ≡ get w (Member n i)
  member_back n i None h = none_back None i (get w (Member n i)) (λ x. x) h
  member_back n i (Some (values.Domain (domains.Rectangular rank))) h = none_back (Some (domains.Rectangular rank)) i (get w (Member n i)) (λ x. x) h
  member_back n i (Some (values.Domain (domains.Sparse parent rank))) h =
      ap present_if (sym (member_listed w n i)) ∙ listed_back (Some (domains.Sparse parent rank)) i (get w (Member n i)) h
  member_back n i (Some (values.Domain (domains.Associative type))) h =
      ap present_if (sym (member_listed w n i)) ∙ listed_back (Some (domains.Associative type)) i (get w (Member n i)) h
  member_back n i (Some (values.Array d kind)) h = none_back None i (get w (Member n i)) (λ x. x) h
  member_back n i (Some v) h = none_back None i (get w (Member n i)) (λ x. x) h

  mapping_back : (n : Name) (o : Option Value) → HasMapping (domain_in o) (get w (Mapping n)) → told_by ls (said_in w n o) (Mapping n) ≡ get w (Mapping n)
  mapping_back n None h = sym h
  mapping_back n (Some (values.Domain (domains.Rectangular rank))) h = ap (λ v. Some (values.Mapping (unwrap_or (mapping_in v) whole))) h.1 ∙ sym h.1
  mapping_back n (Some (values.Domain (domains.Sparse parent rank))) h = sym h
  mapping_back n (Some (values.Domain (domains.Associative type))) h = sym h
  mapping_back n (Some (values.Array d kind)) h = sym h
  mapping_back n (Some v) h = sym h

  use_back : (d n : Name) (o : Option Value) → told_by ls (said_in w n o) (Use d n) ≡ use_of d o
  use_back d n None = refl
  use_back d n (Some (values.Domain (domains.Rectangular rank))) = refl
  use_back d n (Some (values.Domain (domains.Sparse parent rank))) = cond_else (is_same_name d parent) (values.Bound bindings.Sparse)
  use_back d n (Some (values.Domain (domains.Associative type))) = refl
  use_back d n (Some (values.Array e kind)) = cond_else (is_same_name d e) (values.Bound bindings.Array)
  use_back d n (Some v) = refl

  -- ---- arrays

  implicit_kind : (n d : Name) (kind : Kind) → IsImplicit (Some (d, kind)) (get w (Implicit n)) →
      Some (values.Number (implicit_told kind (implicit_in w n kind))) ≡ get w (Implicit n)
  implicit_kind n d (Rectangular rank) h = sym h
  implicit_kind n d (Sparse rank) h = ap (λ v. Some (values.Number (unwrap_or (number_in v) (pos 0)))) h.1 ∙ sym h.1
  implicit_kind n d (Associative type) h = sym h

  implicit_back : (n : Name) (o : Option Value) → get w (Object n) ≡ o → IsImplicit (array_in o) (get w (Implicit n)) →
      told_by ls (said_in w n o) (Implicit n) ≡ get w (Implicit n)
  implicit_back n None e h = sym h
  implicit_back n (Some (values.Domain (domains.Rectangular rank))) e h = sym h
  implicit_back n (Some (values.Domain (domains.Sparse parent rank))) e h = sym h
  implicit_back n (Some (values.Domain (domains.Associative type))) e h = sym h
  implicit_back n (Some (values.Array d kind)) e h =
      ap (λ k. Some (values.Number (implicit_told k (implicit_in w n kind)))) (kind_line d kind (well.objects n _ e)) ∙ implicit_kind n d kind h
  implicit_back n (Some v) e h = sym h

  pub column : (n d : Name) (kind : Kind) → get w (Object n) ≡ Some (values.Array d kind) → HasEach (element_at w n) (indices_in w d kind)
  column n d kind e = all_there w n d kind well (ap array_in e)

  element_array : (n d : Name) (kind : Kind) (i : Index) → get w (Object n) ≡ Some (values.Array d kind)
      → option_map (λ z. values.Number z) (last_of index_cmp (zip (indices_told (first_line_of d ls)) (elements_at w n (indices_in w d kind))) i) ≡ get w
      (Element n i)
  element_array n d kind i e =
      ap (λ is. option_map (λ z. values.Number z) (last_of index_cmp (zip is (elements_at w n (indices_in w d kind))) i))
      (indices_line d kind (well.objects n _ e))
      ∙ ap (option_map (λ z. values.Number z)) (column_last (element_at w n) (indices_in w d kind) i (column n d kind e))
      ∙ number_back (has (indices_in w d kind) i) (get w (Element n i)) (element_by w n d kind i (has (indices_in w d kind) i) well (ap array_in e) refl)

  element_back : (n : Name) (i : Index) (o : Option Value) → get w (Object n) ≡ o → IsElement (is_index_of_array w (array_in o) i) (get w (Element n i)) →
      told_by ls (said_in w n o) (Element n i) ≡ get w (Element n i)
  element_back n i None e h = sym h
  element_back n i (Some (values.Domain (domains.Rectangular rank))) e h = sym h
  element_back n i (Some (values.Domain (domains.Sparse parent rank))) e h = sym h
  element_back n i (Some (values.Domain (domains.Associative type))) e h = sym h
  element_back n i (Some (values.Array d kind)) e h = element_array n d kind i e
  element_back n i (Some v) e h = sym h

  by_name : (n : Name) (c : Cell) → told_by ls (first_line_of n ls) c ≡ told_by ls (said_in w n (get w (Object n))) c
  by_name n c = ap (λ o. told_by ls o c) (line_of_name w n)

  -- what the lines tell of a cell stands in it
  pub returned : (c : Cell) → told ls c ≡ get w c
  returned (Object n) = by_name n (Object n) ∙ object_back n (get w (Object n)) refl
  returned (Shape n) = by_name n (Shape n) ∙ shape_back n (get w (Object n)) (well.shapes n)
  returned (In n i) = by_name n (In n i) ∙ inside_back n i (get w (Object n)) (well.shapes n) ∙ sym (well.insides n i)
  returned (Member n i) = by_name n (Member n i) ∙ member_back n i (get w (Object n)) (well.members n i)
  returned (Mapping n) = by_name n (Mapping n) ∙ mapping_back n (get w (Object n)) (well.mappings n)
  returned (Use d n) = by_name n (Use d n) ∙ use_back d n (get w (Object n)) ∙ sym (well.uses d n)
  returned (Implicit n) = by_name n (Implicit n) ∙ implicit_back n (get w (Object n)) refl (well.implicits n)
  returned (Element n i) = by_name n (Element n i) ∙ element_back n i (get w (Object n)) refl (well.elements n i)
