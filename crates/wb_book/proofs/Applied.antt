-- The workbook after changes, by what is kept of it then.
use Rattle.std.proofs.Common.{◌≡◌, ℕ, ◌≤◌, nat_lt, Bool, true, false, cond, ◌&&◌, List, [], ◌∷◌, length, filter, Option, Some, None, is_some, IsSome, refl, sym, ap, subst, ◌∙◌}
use Rattle.std.proofs.Common.{arith}
use Rattle.std.proofs.lemmas.Bool.{eq-eqb, lt-ltb}
use Rattle.std.specs.BTreeMap.{BTreeMap, is_at}
use Rattle.std.specs.Cmp.Lexicographic.{slice_cmp}
use Rattle.std.specs.FinMap.{get}
use Rattle.std.specs.List.Sorted.{IsStrictlySortedBy}
use Rattle.std.specs.Map.{lookup, keys_of}
use Rattle.std.specs.Option.{option_map, option_and_then}
use Rattle.std.specs.Ordering.{nat_cmp, eq_by_cmp}
use Rattle.selective_undo.specs.Changes.{applied, apply, changes}
use Rattle.selective_undo.proofs.Changes.{get-put, is_itself, apply_keeps}
use Rattle.wb_dist.specs.Maps.{LayoutMap, whole, block, cyclic, block_cyclic, is_layout}
use Rattle.wb_cells.specs.declared.cells.cell.Cell.{Cell}
use Rattle.wb_cells.specs.declared.cells.cell.Cell.TheVariants.{Object, Shape, Mapping, Element}
use Rattle.wb_cells.specs.declared.cells.value.Value.{Value}
use Rattle.wb_cells.specs.declared.cells.value.Value.TheVariants.{Domain, Array, Ranges, Mapping as mapping_value, Present, Bound, Number}
use Rattle.wb_cells.specs.declared.cells.kind.DomainKind.{DomainKind}
use Rattle.wb_cells.specs.declared.cells.kind.DomainKind.TheVariants.{Rectangular, Sparse, Associative}
use Rattle.wb_cells.specs.declared.cells.kind.KeyType.TheVariants.{Int, Text}
use Rattle.wb_cells.specs.declared.cells.kind.Kind.{Kind}
use Rattle.wb_cells.specs.declared.values.index.Index.{Index}
use Rattle.wb_cells.specs.Cells.{Stored, Name, Cells, Changes, cell_cmp, cell_order, index_cmp, state_of}
use Rattle.wb_cells.specs.Kinds.{kind_of}
use Rattle.wb_cells.specs.Layouts.{is_of_rank, IsMapping}
use Rattle.wb_cells.specs.Locales.{mapping_in}
use Rattle.wb_cells.specs.WellFormed.{IsWellFormed, IsElement, IsObject, IsShape, HasMapping, is_index_of_array, domain_at, domain_in, array_at, array_in as object_in}
use Rattle.wb_cells.proofs.Shown.{get-state_of}
use Rattle.wb_cells.proofs.TwoRanks.{block_grid, cyclic_grid, block_cyclic_grid}
use Rattle.wb_elements.specs.Piecewise.Changed.{changed_at}
use Rattle.wb_book.specs.Joined.{is_stored, stored_in, AllStored}
use Rattle.wb_book.specs.Kept.{Pieced, array_in, Agree}
use Rattle.wb_book.specs.After.{is_for, lies_for, kind_lies, object_lies, lies_at, IsAfter}
use Rattle.wb_book.specs.Groups.{Group, LeadTo}
use Rattle.wb_book.specs.Moved.{put_over}
use Rattle.wb_book.specs.Shelf.{cells_of, IsShelf, lies_by, mapping_of}
use Rattle.wb_book.proofs.ElementsSet.{stored_there, differ, stored_apart}
use Rattle.wb_book.proofs.Built.{HasElements}
use Rattle.wb_book.proofs.Present.{domain_object}
use Rattle.wb_book.proofs.Same.{same_cells}
use Rattle.wb_book.proofs.Written.{one_cell as equal_cells}

-- ---- the stored cells

-- the changes of stored cells change stored cells as all changes do
pub stored_only : (xs : Changes) (s t : Cells) (c : Cell) → is_stored c ≡ true → get t c ≡ get s c →
    get (apply (filter (λ x. is_stored x.cell) xs) t) c ≡ get (apply xs s) c
stored_only [] s t c st same = same
stored_only (x ∷ xs) s t c st same = by (is_stored x.cell) refl (λ u v e. stored_only xs u v c st e)
  where
    by : (b : Bool) → is_stored x.cell ≡ b →
        ((u v : Cells) → get v c ≡ get u c → get (apply (filter (λ y. is_stored y.cell) xs) v) c ≡ get (apply xs u) c) →
        get (apply (cond b (x ∷ filter (λ y. is_stored y.cell) xs) (filter (λ y. is_stored y.cell) xs)) t) c ≡ get (apply xs (applied x s)) c
    by true e rest = rest (applied x s) (applied x t) (get-put cell_order x t c ∙ ap (cond (eq_by_cmp cell_cmp c x.cell) x.value) same ∙
        sym (get-put cell_order x s c))
    by false e rest = rest (applied x s) t (same ∙ ap (λ (b : Bool). cond b x.value (get s c)) (sym (stored_apart c x.cell st e)) ∙
        sym (get-put cell_order x s c))

pub stored_after : (cells after : Stored) (arrays : BTreeMap Name Pieced) (delta : Changes) → IsShelf cells arrays →
    state_of after ≡ apply (filter (λ x. is_stored x.cell) delta) (state_of cells) → (c : Cell) → is_stored c ≡ true →
    stored_in after.entries c ≡ get (apply delta (cells_of cells arrays)) c
stored_after cells after arrays delta kept is c st =
    sym (get-state_of after c) ∙ ap (λ (t : Cells). get t c) is
    ∙ stored_only delta (cells_of cells arrays) (state_of cells) c st (get-state_of cells c ∙ stored_there cells arrays kept c st)

-- where no other cell is found, all are stored
none_first : (e : Cell × Value) (o : Option Value) (t : Bool) → cond t (Some e.1) o ≡ None → o ≡ None
none_first e o true is = cc
none_first e o false is = is

pub all_stored_by : (es : List (Cell × Value)) → ((k : Cell) → is_stored k ≡ false → stored_in es k ≡ None) → AllStored es
all_stored_by [] none = tt
all_stored_by (e ∷ es) none = (by (is_stored e.0) refl, all_stored_by es (λ k apart. none_first e (stored_in es k) (eq_by_cmp cell_cmp k e.0) (none k apart)))
  where
    found_no : (o : Option Value) → cond true (Some e.1) o ≡ None → false ≡ true
    found_no o is = cc

    by : (t : Bool) → is_stored e.0 ≡ t → t ≡ true
    by true s = refl
    by false s = found_no (stored_in es e.0) (ap (λ (b : Bool). cond b (Some e.1) (stored_in es e.0)) (sym (is_itself cell_order e.0)) ∙ none e.0 s)

no_change : (xs : Changes) (k : Cell) → is_stored k ≡ false → changes cell_cmp (filter (λ x. is_stored x.cell) xs) k ≡ false
no_change [] k apart = refl
no_change (x ∷ xs) k apart = by (is_stored x.cell) refl (no_change xs k apart)
  where
    turned : (b : Bool) → eq_by_cmp cell_cmp k x.cell ≡ b → is_stored x.cell ≡ true → b ≡ false
    turned false e st = refl
    turned true e st = differ (is_stored x.cell) (is_stored k) st apart (ap is_stored (sym (equal_cells k x.cell e))) true

    by : (b : Bool) → is_stored x.cell ≡ b → changes cell_cmp (filter (λ y. is_stored y.cell) xs) k ≡ false →
        changes cell_cmp (cond b (x ∷ filter (λ y. is_stored y.cell) xs) (filter (λ y. is_stored y.cell) xs)) k ≡ false
    by true e rest = rw (turned (eq_by_cmp cell_cmp k x.cell) refl e) rest
    by false e rest = rest

pub none_stored : (es : List (Cell × Value)) (k : Cell) → is_stored k ≡ false → AllStored es → stored_in es k ≡ None
none_stored [] k apart all = refl
none_stored (e ∷ es) k apart all = rw (by (eq_by_cmp cell_cmp k e.0) refl) (none_stored es k apart all.1)
  where
    by : (b : Bool) → eq_by_cmp cell_cmp k e.0 ≡ b → eq_by_cmp cell_cmp k e.0 ≡ false
    by false f = f
    by true f = f ∙ differ (is_stored e.0) (is_stored k) all.0 apart (ap is_stored (sym (equal_cells k e.0 f))) true

pub all_stored_after : (cells after : Stored) (delta : Changes) → AllStored cells.entries →
    state_of after ≡ apply (filter (λ x. is_stored x.cell) delta) (state_of cells) → AllStored after.entries
all_stored_after cells after delta all is =
    all_stored_by after.entries (λ k apart.
    sym (get-state_of after k) ∙ ap (λ (t : Cells). get t k) is
    ∙ apply_keeps cell_order (filter (λ x. is_stored x.cell) delta) (state_of cells) k (no_change delta k apart)
    ∙ get-state_of cells k ∙ none_stored cells.entries k apart all)

-- ---- how the arrays lie

-- a mapping for domains of a rank is of that rank
of_rank : (rank : ℕ) (m : LayoutMap) → is_layout rank m ≡ true → is_of_rank rank m ≡ true
of_rank rank whole e = refl
of_rank rank (block m) e = eq-eqb rank (length m.grid) (sym (block_grid rank m e))
of_rank rank (cyclic m) e = eq-eqb rank (length m.grid) (sym (cyclic_grid rank m e))
of_rank rank (block_cyclic m) e = eq-eqb rank (length m.grid) (sym (block_cyclic_grid rank m e))

is_right : (rank : ℕ) (m : LayoutMap) → 1 ≤ rank → rank ≤ 3 → IsMapping rank m → is_for rank m ≡ true
is_right rank m some few mapping =
    ap (λ b. b && (nat_lt rank 4 && is_of_rank rank m)) (lt-ltb 0 rank (omega (arith, some)))
    ∙ ap (λ b. b && is_of_rank rank m) (lt-ltb rank 4 (omega (arith, few)))
    ∙ of_rank rank m mapping.valid

-- in a well-formed workbook the mapping of a domain is for its rank
module _ (t : Cells) (formed : IsWellFormed t) where
  rank_right : (d : Name) (rank : ℕ) → domain_at t d ≡ Some (Rectangular rank) →
      option_and_then (lies_for rank) (mapping_in (get t (Mapping d))) ≡ option_map (λ m. (m, rank)) (mapping_in (get t (Mapping d)))
  rank_right d rank is =
      let shape = subst (λ (k : Option DomainKind). IsShape k (get t (Shape d))) is (formed.shapes d) in
      let mapped = subst (λ (k : Option DomainKind). HasMapping k (get t (Mapping d))) is (formed.mappings d) in
      let right : is_for rank mapped.0 ≡ true = is_right rank mapped.0 shape.2.at_least_one shape.2.at_most_three mapped.2 in
      ap (λ (v : Option Value). option_and_then (lies_for rank) (mapping_in v)) mapped.1
      ∙ ap (λ (b : Bool). cond b (Some (mapped.0, rank)) None) right
      ∙ sym (ap (λ (v : Option Value). option_map (λ m. (m, rank)) (mapping_in v)) mapped.1)

  kind_same : (d : Name) (k : Option DomainKind) → domain_at t d ≡ k → kind_lies (get t) d k ≡ mapping_of t d k
  kind_same d None is = refl
  kind_same d (Some (Rectangular rank)) is = rank_right d rank is
  kind_same d (Some (Sparse parent rank)) is =
      rank_right parent rank (formed.objects d (Domain (Sparse parent rank)) (domain_object (get t (Object d)) (Sparse parent rank) is))
  kind_same d (Some (Associative Int)) is = refl
  kind_same d (Some (Associative Text)) is = refl

  object_same : (o : Option Value) → object_lies (get t) o ≡ lies_by t (object_in o)
  object_same None = refl
  object_same (Some (Array d kind)) = kind_same d (domain_at t d) refl
  object_same (Some (Domain k)) = refl
  object_same (Some (Ranges rs)) = refl
  object_same (Some (mapping_value m)) = refl
  object_same (Some Present) = refl
  object_same (Some (Bound k)) = refl
  object_same (Some (Number z)) = refl

-- stored cells that agree with well-formed ones where these are present tell how its arrays lie
module _ (stored : Cell → Option Value) (t : Cells) (formed : IsWellFormed t) (agree : (c : Cell) → is_stored c ≡ true → IsSome (get t c) →
    stored c ≡ get t c) where
  some_mapping : (d : Name) (rank : ℕ) → domain_at t d ≡ Some (Rectangular rank) → stored (Mapping d) ≡ get t (Mapping d)
  some_mapping d rank is =
      let mapped = subst (λ (k : Option DomainKind). HasMapping k (get t (Mapping d))) is (formed.mappings d) in
      agree (Mapping d) refl (ap is_some mapped.1)

  kind_there : (d : Name) (k : Option DomainKind) → domain_at t d ≡ k → ((v : Value) → get t (Object d) ≡ Some v → IsObject t v) →
      kind_lies stored d k ≡ kind_lies (get t) d k
  kind_there d None is objects = refl
  kind_there d (Some (Rectangular rank)) is objects = ap (λ (v : Option Value). option_and_then (lies_for rank) (mapping_in v)) (some_mapping d rank is)
  kind_there d (Some (Associative Int)) is objects = refl
  kind_there d (Some (Associative Text)) is objects = refl
  kind_there d (Some (Sparse parent rank)) is objects =
      ap (λ (v : Option Value). option_and_then (lies_for rank) (mapping_in v))
      (some_mapping parent rank (objects (Domain (Sparse parent rank)) (domain_object (get t (Object d)) (Sparse parent rank) is)))

  domain_present : (o : Option Value) (kind : Kind) → option_map kind_of (domain_in o) ≡ Some kind → IsSome o
  domain_present None kind e = cc
  domain_present (Some v) kind e = there v
    where
      there : (w : Value) → IsSome (Some w)
      there w = refl

  object_there : (o : Option Value) → ((v : Value) → o ≡ Some v → IsObject t v) → object_lies stored o ≡ object_lies (get t) o
  object_there None objects = refl
  object_there (Some (Array d kind)) objects =
      let present : IsSome (get t (Object d)) = domain_present (get t (Object d)) kind (objects (Array d kind) refl) in
      ap (λ (o : Option Value). kind_lies stored d (domain_in o)) (agree (Object d) refl present)
      ∙ kind_there d (domain_at t d) refl (formed.objects d)
  object_there (Some (Domain k)) objects = refl
  object_there (Some (Ranges rs)) objects = refl
  object_there (Some (mapping_value m)) objects = refl
  object_there (Some Present) objects = refl
  object_there (Some (Bound k)) objects = refl
  object_there (Some (Number z)) objects = refl

  pub lies_there : (a : Name) → IsSome (get t (Object a)) → lies_at stored a ≡ lies_by t (array_at t a)
  lies_there a present = ap (object_lies stored) (agree (Object a) refl present) ∙ object_there (get t (Object a)) (formed.objects a)
      ∙ object_same t formed (get t (Object a))

-- ---- the arrays are right

pub none_elements : (t : Cells) (b : Name) → IsWellFormed t → array_at t b ≡ None → (i : Index) → get t (Element b i) ≡ None
none_elements t b formed none i =
    subst (λ (o : Option (Name × Kind)). IsElement (is_index_of_array t o i) (get t (Element b i))) none (formed.elements b i)

-- the elements of an array after the changes are those of the cells after them
pub right_elements : (s : Cells) (es : List (Name × Pieced)) (delta : Changes) (b : Name) (p : Pieced) (o : Option Pieced) (xs : Group) →
    LeadTo delta b xs → Agree es s → array_in es b ≡ Some p → HasElements xs p o →
    (i : Index) →
    option_map Number (option_and_then (λ x. lookup (is_at (index_cmp i)) x.0) (put_over (Some p) o)) ≡ get (apply delta s) (Element b i)
right_elements s es delta b p None xs lead agree found after i =
    let was = ap (λ (z : Option Pieced). option_map Number (option_and_then (λ x. lookup (is_at (index_cmp i)) x.0) z)) (sym found) ∙ agree b i in
    ap (λ (ys : Group). option_map Number (changed_at ys (lookup (is_at (index_cmp i)) p.0) i)) (sym after)
    ∙ lead s (lookup (is_at (index_cmp i)) p.0) i was
right_elements s es delta b p (Some q) xs lead agree found after i =
    let was = ap (λ (z : Option Pieced). option_map Number (option_and_then (λ x. lookup (is_at (index_cmp i)) x.0) z)) (sym found) ∙ agree b i in
    ap (option_map Number) (after i) ∙ lead s (lookup (is_at (index_cmp i)) p.0) i was

-- and they lie as these say
pub right_lies : (p : Pieced) (o : Option Pieced) (l : LayoutMap × ℕ) (xs : Group) (lie : Option (LayoutMap × ℕ)) → Some l ≡ lie → IsAfter xs l p o →
    option_map (λ z. z.1) (put_over (Some p) o) ≡ lie
right_lies p None l xs lie lies after = ap (λ z. Some z) after.0 ∙ lies
right_lies p (Some q) l xs lie lies after = ap (λ z. Some z) after.0 ∙ lies

-- what is kept after the changes has the cells after them
pub cells_after : (after : Stored) (fresh : BTreeMap Name Pieced) (t : Cells) → IsWellFormed t →
    ((c : Cell) → is_stored c ≡ true → stored_in after.entries c ≡ get t c) → AllStored after.entries →
    IsStrictlySortedBy cell_cmp (keys_of after.entries) → IsStrictlySortedBy (slice_cmp nat_cmp) (keys_of fresh.entries) →
    Agree fresh.entries t → cells_of after fresh ≡ t
cells_after after fresh t formed stored all ascending by_name agree =
    same_cells after fresh t (record { stored = all; ascending = ascending; by_name = by_name }) formed stored agree

-- what is kept after the changes is the workbook after them
pub shelf_after : (after : Stored) (fresh : BTreeMap Name Pieced) (t : Cells) → IsWellFormed t → cells_of after fresh ≡ t →
    AllStored after.entries →
    IsStrictlySortedBy cell_cmp (keys_of after.entries) → IsStrictlySortedBy (slice_cmp nat_cmp) (keys_of fresh.entries) →
    ((b : Name) → option_map (λ p. p.1) (array_in fresh.entries b) ≡ lies_by t (array_at t b)) → IsShelf after fresh
shelf_after after fresh t formed is all ascending by_name lie = record {
  well_formed = subst IsWellFormed (sym is) formed;
  stored = all;
  ascending = ascending;
  by_name = by_name;
  lie = λ a. lie a ∙ ap (λ (s : Cells). lies_by s (array_at s a)) (sym is);
}
