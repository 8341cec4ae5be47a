-- A well-formed workbook answers for every domain: each has its indices, and each index of a domain lies on a locale.
use Rattle.std.proofs.Common.{◌≡◌, ℕ, Bool, true, false, List, Option, Some, None, is_some, length, refl, sym, ap, subst, ◌∙◌}
use Rattle.std.proofs.lemmas.Bool.{eq-eqb}
use Rattle.std.specs.FinMap.{get}
use Rattle.std.specs.Option.{option_map_or}
use Rattle.wb_dist.specs.Maps.{LayoutMap, whole, block, cyclic, block_cyclic, is_layout}
use Rattle.wb_cells.specs.declared.cells.cell.Cell.TheVariants.{Object, Shape, In, Member, Mapping}
use Rattle.wb_cells.specs.declared.cells.kind.DomainKind.{DomainKind}
use Rattle.wb_cells.specs.declared.cells.kind.DomainKind.TheVariants.{Rectangular, Sparse, Associative}
use Rattle.wb_cells.specs.declared.cells.value.Value.{Value}
use Rattle.wb_cells.specs.declared.cells.value.Value.TheVariants.{Domain}
use Rattle.wb_cells.specs.declared.values.index.Index.{Index}
use Rattle.wb_cells.specs.declared.values.index.Index.TheVariants.{Point, Text}
use Rattle.wb_cells.specs.Cells.{Name, Cells}
use Rattle.wb_cells.specs.Layouts.{is_of_rank, locale_in}
use Rattle.wb_cells.specs.Locales.{locale_by, has_index, is_index_at, locale_of_kind, locale_within, locale_at, is_held, locale_held}
use Rattle.wb_cells.specs.Readers.{size_at}
use Rattle.wb_cells.specs.Shapes.{Range, indices}
use Rattle.wb_cells.specs.WellFormed.{IsWellFormed, IsObject, IsShape, HasMapping, IsMember, domain_at, domain_in, inside_of, present_if, ranges_in, has}
use Rattle.wb_cells.proofs.TwoRanks.{block_grid, cyclic_grid, block_cyclic_grid}
use Rattle.wb_cells.proofs.Inside.{has_no_text, length-inside}

-- ---- how many indices

size_by : (s : Cells) (d : Name) (kind : Option DomainKind) → IsWellFormed s → domain_at s d ≡ kind → is_some (size_at s d) ≡ is_some (domain_at s d)
size_by s d None ok is = rw is refl
size_by s d (Some (Rectangular rank)) ok is =
    let shape = subst (λ (o : Option DomainKind). IsShape o (get s (Shape d))) is (ok.shapes d) in
    rw (is, shape.1) refl
size_by s d (Some (Sparse parent rank)) ok is = rw is refl
size_by s d (Some (Associative type)) ok is = rw is refl

-- each domain of a well-formed workbook has a size
pub size_there : (s : Cells) (d : Name) → IsWellFormed s → is_some (size_at s d) ≡ is_some (domain_at s d)
size_there s d ok = size_by s d (domain_at s d) ok refl

-- ---- on which locale

is_inside : (rs : List Range) (i : Index) → is_some (inside_of (Some rs) i) ≡ true → has (indices rs) i ≡ true
is_inside rs i there = by (has (indices rs) i) there
  where
    by : (b : Bool) → is_some (present_if b) ≡ true → b ≡ true
    by true e = refl
    by false e = cc

-- a mapping for domains of a rank is of that rank
of_rank : (rank : ℕ) (m : LayoutMap) → is_layout rank m ≡ true → is_of_rank rank m ≡ true
of_rank rank whole e = refl
of_rank rank (block m) e = eq-eqb rank (length m.grid) (sym (block_grid rank m e))
of_rank rank (cyclic m) e = eq-eqb rank (length m.grid) (sym (cyclic_grid rank m e))
of_rank rank (block_cyclic m) e = eq-eqb rank (length m.grid) (sym (block_cyclic_grid rank m e))

-- a mapping of the rank puts each index of the ranges on a locale
lies_inside : (m : LayoutMap) (rs : List Range) (i : Index) → is_of_rank (length rs) m ≡ true → is_some (inside_of (Some rs) i) ≡ true →
    is_some (locale_in m i) ≡ true
lies_inside m rs (Point is) fits there = rw (length-inside rs is (is_inside rs (Point is) there), fits) refl
lies_inside m rs (Text t) fits there = let no : false ≡ true = has_no_text rs t ∙ is_inside rs (Text t) there in cc

module _ (s : Cells) (ok : IsWellFormed s) where
  -- an index of a rectangular domain lies on a locale by its mapping
  lies_by_mapping : (d : Name) (rank : ℕ) (i : Index) → domain_at s d ≡ Some (Rectangular rank) → is_some (get s (In d i)) ≡ true →
      is_some (locale_by s d i) ≡ true
  lies_by_mapping d rank i is there =
      let shape = subst (λ (o : Option DomainKind). IsShape o (get s (Shape d))) is (ok.shapes d) in
      let mapping = subst (λ (o : Option DomainKind). HasMapping o (get s (Mapping d))) is (ok.mappings d) in
      let inside : is_some (inside_of (Some shape.0) i) ≡ true = sym (ap (λ v. is_some (inside_of (ranges_in v) i)) shape.1) ∙
      sym (ap (λ v. is_some v) (ok.insides d i)) ∙ there in
      let fits : is_of_rank (length shape.0) mapping.0 ≡ true = ap (λ k. is_of_rank k mapping.0) shape.2.dimensions ∙ of_rank rank mapping.0 mapping.2.valid in
      rw mapping.1 (lies_inside mapping.0 shape.0 i fits inside)

  -- a member of a sparse domain is an index of the parent
  member_inside : (d parent : Name) (rank : ℕ) (i : Index) (v : Option Value) → IsMember s (Some (Sparse parent rank)) i v → is_some v ≡ true →
      is_some (get s (In parent i)) ≡ true
  member_inside d parent rank i None h there = cc
  member_inside d parent rank i (Some v) h there = rw h.1 refl

  parent_is : (d parent : Name) (rank : ℕ) (o : Option Value) → get s (Object d) ≡ o → domain_in o ≡ Some (Sparse parent rank) →
      domain_at s parent ≡ Some (Rectangular rank)
  parent_is d parent rank (Some (Domain (Sparse p r))) at is =
      let object : IsObject s (Domain (Sparse p r)) = ok.objects d (Domain (Sparse p r)) at in
      let same : Sparse p r ≡ Sparse parent rank = cc in
      let of_parent : p ≡ parent = cc in
      let of_rank : r ≡ rank = cc in
      rw (← of_parent, ← of_rank) object
  parent_is d parent rank _ at is = cc

  lies_by : (d : Name) (i : Index) (kind : DomainKind) → domain_at s d ≡ Some kind → has_index s d i kind ≡ true → is_some (locale_of_kind s d i kind) ≡ true
  lies_by d i (Rectangular rank) is there = lies_by_mapping d rank i is there
  lies_by d i (Sparse parent rank) is there =
      let member = subst (λ (o : Option DomainKind). IsMember s o i (get s (Member d i))) is (ok.members d i) in
      lies_by_mapping parent rank i (parent_is d parent rank (get s (Object d)) refl is) (member_inside d parent rank i (get s (Member d i)) member there)
  lies_by d i (Associative type) is there = refl

  lies_within : (d : Name) (i : Index) (kind : DomainKind) (b : Bool) → domain_at s d ≡ Some kind → has_index s d i kind ≡ b →
      is_some (locale_within s d i kind) ≡ has_index s d i kind
  lies_within d i kind true is there = rw there (lies_by d i kind is there)
  lies_within d i kind false is there = rw there refl

  lies_at : (d : Name) (i : Index) (o : Option DomainKind) → domain_at s d ≡ o → is_some (locale_at s d i) ≡ is_index_at s d i
  lies_at d i None is = rw is refl
  lies_at d i (Some kind) is = rw is (lies_within d i kind (has_index s d i kind) is refl)

  -- an index of a domain of a well-formed workbook lies on a locale, and nothing else does
  pub locale_there : (d : Name) (i : Index) → is_some (locale_at s d i) ≡ is_index_at s d i
  locale_there d i = lies_at d i (domain_at s d) refl

  -- ---- by the ranges in place of the cells `In`

  in_ranges : (o : Option (List Range)) (i : Index) → is_some (inside_of o i) ≡ option_map_or (λ rs. has (indices rs) i) o false
  in_ranges None i = refl
  in_ranges (Some rs) i = by (has (indices rs) i)
    where
      by : (b : Bool) → is_some (present_if b) ≡ b
      by true = refl
      by false = refl

  pub held : (d : Name) (i : Index) (kind : DomainKind) → is_held s d i kind ≡ has_index s d i kind
  held d i (Rectangular rank) = sym (ap (λ v. is_some v) (ok.insides d i) ∙ in_ranges (ranges_in (get s (Shape d))) i)
  held d i (Sparse parent rank) = refl
  held d i (Associative type) = refl

  held_by : (d : Name) (i : Index) (o : Option DomainKind) → domain_at s d ≡ o → locale_held s d i ≡ locale_at s d i
  held_by d i None is = rw is refl
  held_by d i (Some kind) is = rw (is, held d i kind) refl

  -- the locale is the same
  pub held_there : (d : Name) (i : Index) → locale_held s d i ≡ locale_at s d i
  held_there d i = held_by d i (domain_at s d) refl
