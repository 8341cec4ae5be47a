-- Changes that were made whole, or taken back.
use Rattle.std.proofs.Common.{◌≡◌, ℕ, Bool, true, false, true≢false, not, cond, ◌&&◌, ◌||◌, List, [], ◌∷◌, filter, map, Option, Some, None, is_some, IsSome}
use Rattle.std.proofs.Common.{refl}
use Rattle.std.proofs.Common.{sym, ap, subst, ◌∙◌}
use Rattle.std.specs.BTreeMap.{BTreeMap, is_at}
use Rattle.std.specs.Cmp.Lexicographic.{slice_cmp}
use Rattle.std.specs.FinMap.{get}
use Rattle.std.specs.List.Sorted.{IsStrictlySortedBy}
use Rattle.std.specs.Map.{keys_of, lookup}
use Rattle.std.specs.Option.{option_map, option_and_then}
use Rattle.std.specs.Ordering.{nat_cmp, eq_by_cmp}
use Rattle.selective_undo.specs.declared.Change.{Change}
use Rattle.selective_undo.specs.Changes.{applied, apply, inverse, changes, AllOnce, sets, clears}
use Rattle.selective_undo.proofs.AllOrNothing.{sets_clears}
use Rattle.std.specs.List.{list_all}
use Rattle.selective_undo.proofs.Changes.{get-put, apply_keeps, not_true}
use Rattle.selective_undo.proofs.Locality.{or_neither}
use Rattle.wb_dist.specs.Maps.{LayoutMap}
use Rattle.wb_cells.specs.declared.cells.cell.Cell.{Cell}
use Rattle.wb_cells.specs.declared.cells.cell.Cell.TheVariants.{Object, Shape, In, Member, Mapping, Use, Implicit, Element}
use Rattle.wb_cells.specs.declared.cells.kind.DomainKind.{DomainKind}
use Rattle.wb_cells.specs.declared.cells.kind.DomainKind.TheVariants.{Rectangular, Sparse, Associative}
use Rattle.wb_cells.specs.declared.cells.kind.KeyType.TheVariants.{Int, Text}
use Rattle.wb_cells.specs.declared.cells.kind.Kind.{Kind}
use Rattle.wb_cells.specs.declared.cells.value.Value.{Value}
use Rattle.wb_cells.specs.declared.cells.value.Value.TheVariants.{Domain, Array, Number}
use Rattle.wb_cells.specs.declared.values.index.Index.{Index}
use Rattle.wb_cells.specs.Cells.{Stored, Name, Cells, Changes, cell_cmp, cell_order, index_cmp, state_of}
use Rattle.wb_cells.specs.Kinds.{kind_of}
use Rattle.wb_cells.specs.Locales.{mapping_in}
use Rattle.wb_cells.specs.WellFormed.{IsWellFormed, HasMapping, domain_at, array_at, array_in as object_in}
use Rattle.wb_cells.proofs.Shown.{get-state_of}
use Rattle.wb_book.specs.Joined.{is_stored, stored_in, element_in, with_answer}
use Rattle.wb_book.specs.After.{lies_at, IsAfter, AreAfter, is_array}
use Rattle.wb_book.specs.Groups.{Group, group_in, changes_in, LeadTo, leaves}
use Rattle.wb_book.specs.Kept.{Pieced, array_in, Agree}
use Rattle.wb_book.specs.Moved.{put_over}
use Rattle.wb_book.specs.Shelf.{cells_of, IsShelf, lies_by, mapping_of}
use Rattle.wb_book.proofs.Applied.{stored_only, stored_after, all_stored_after, all_stored_by, none_stored, lies_there, none_elements, right_elements}
use Rattle.wb_book.proofs.Applied.{right_lies, cells_after, shelf_after}
use Rattle.wb_book.proofs.Built.{HasElements, after_all, elements_all}
use Rattle.wb_book.proofs.Present.{domain_object, array_object}
use Rattle.wb_book.proofs.Resting.{is_lay, left_alone, same_lies}
use Rattle.wb_book.proofs.ElementsSet.{stored_there}
use Rattle.wb_book.proofs.Kept.{get-cells_of}

-- ---- the changes of stored cells

none_filtered : (xs : Changes) (c : Cell) → changes cell_cmp xs c ≡ false → changes cell_cmp (filter (λ x. is_stored x.cell) xs) c ≡ false
none_filtered [] c e = refl
none_filtered (x ∷ xs) c e =
    let parts = or_neither (eq_by_cmp cell_cmp c x.cell) (changes cell_cmp xs c) e in
    by (is_stored x.cell) parts.0 (none_filtered xs c parts.1)
  where
    by : (t : Bool) → eq_by_cmp cell_cmp c x.cell ≡ false → changes cell_cmp (filter (λ y. is_stored y.cell) xs) c ≡ false →
        changes cell_cmp (cond t (x ∷ filter (λ y. is_stored y.cell) xs) (filter (λ y. is_stored y.cell) xs)) c ≡ false
    by true other rest = rw other rest
    by false other rest = rest

pub once_stored : (xs : Changes) → AllOnce cell_cmp xs → AllOnce cell_cmp (filter (λ x. is_stored x.cell) xs)
once_stored [] once = tt
once_stored (x ∷ xs) once = by (is_stored x.cell) (none_filtered xs x.cell once.0) (once_stored xs once.1)
  where
    by : (t : Bool) → changes cell_cmp (filter (λ y. is_stored y.cell) xs) x.cell ≡ false → AllOnce cell_cmp (filter (λ y. is_stored y.cell) xs) →
        AllOnce cell_cmp (cond t (x ∷ filter (λ y. is_stored y.cell) xs) (filter (λ y. is_stored y.cell) xs))
    by true new rest = (new, rest)
    by false new rest = rest

not_cleared : (b : Bool) (o : Option Value) → IsSome (cond b None o) → cond b None o ≡ o
not_cleared true o there = cc
not_cleared false o there = refl

-- what is there after cells were cleared was there before
clears_there : (xs : Changes) (u : Cells) (c : Cell) → IsSome (get (apply (clears xs) u) c) → get (apply (clears xs) u) c ≡ get u c
clears_there [] u c there = refl
clears_there (x ∷ xs) u c there =
    elim x.value as (λ v. let y : Change Cell Value = record x { value = v } in IsSome (get (apply (clears (y ∷ xs)) u) c) →
    get (apply (clears (y ∷ xs)) u) c ≡ get u c) [
      | Some v ↦ λ h. clears_there xs u c h
      | None ↦ λ h.
          let y : Change Cell Value = record x { value = None } in
          let rest : get (apply (clears xs) (applied y u)) c ≡ cond (eq_by_cmp cell_cmp c x.cell) None (get u c) = clears_there xs (applied y u) c h
          ∙ get-put cell_order y u c in
          rest ∙ not_cleared (eq_by_cmp cell_cmp c x.cell) (get u c) (subst (λ (o : Option Value). IsSome o) rest h)
    ] there

-- changes of the same cells to other values
abbrev pub told_by : (Change Cell Value → Option Value) → Change Cell Value → Change Cell Value
told_by told x = record { cell = x.cell; value = told x }

changes-told : (told : Change Cell Value → Option Value) (xs : Changes) (c : Cell) → changes cell_cmp (map (told_by told) xs) c ≡ changes cell_cmp xs c
changes-told told [] c = refl
changes-told told (x ∷ xs) c = ap (λ (t : Bool). eq_by_cmp cell_cmp c x.cell || t) (changes-told told xs c)

pub once_told : (told : Change Cell Value → Option Value) (xs : Changes) → AllOnce cell_cmp xs → AllOnce cell_cmp (map (told_by told) xs)
once_told told [] once = tt
once_told told (x ∷ xs) once = (changes-told told xs x.cell ∙ once.0, once_told told xs once.1)

pub inverse_is : (answers : Cell → Option Value) (s : Cells) → ((c : Cell) → answers c ≡ get s c) → (xs : Changes) → map (with_answer answers) xs ≡ inverse xs s
inverse_is answers s same [] = refl
inverse_is answers s same (x ∷ xs) =
    let made : Option Value → Changes → Changes = λ v ys. (let y : Change Cell Value = record { cell = x.cell; value = v } in y ∷ ys) in
    ap (λ (v : Option Value). made v (map (with_answer answers) xs)) (same x.cell) ∙ ap (made (get s x.cell)) (inverse_is answers s same xs)

-- ---- an array of a well-formed workbook lies by something

abbrev lies_of : ℕ → Option Value → Option (LayoutMap × ℕ)
lies_of r v = option_map (λ m. (m, r)) (mapping_in v)

has_mapping : (t : Cells) → IsWellFormed t → (d : Name) (r : ℕ) → domain_at t d ≡ Some (Rectangular r) → IsSome (lies_of r (get t (Mapping d)))
has_mapping t formed d r is =
    let mapped = subst (λ (k : Option DomainKind). HasMapping k (get t (Mapping d))) is (formed.mappings d) in
    ap (λ (v : Option Value). is_some (lies_of r v)) mapped.1

kind_lies_some : (t : Cells) → IsWellFormed t → (d : Name) (k : Option DomainKind) (kind : Kind) → domain_at t d ≡ k → option_map kind_of k ≡ Some kind →
    IsSome (mapping_of t d k)
kind_lies_some t formed d None kind is e = cc
kind_lies_some t formed d (Some (Rectangular r)) kind is e = has_mapping t formed d r is
kind_lies_some t formed d (Some (Sparse parent r)) kind is e =
    has_mapping t formed parent r (formed.objects d (Domain (Sparse parent r)) (domain_object (get t (Object d)) (Sparse parent r) is))
kind_lies_some t formed d (Some (Associative Int)) kind is e = refl
kind_lies_some t formed d (Some (Associative Text)) kind is e = refl

lies_some : (t : Cells) → IsWellFormed t → (a d : Name) (k : Kind) → array_at t a ≡ Some (d, k) → IsSome (lies_by t (array_at t a))
lies_some t formed a d k is =
    subst (λ (x : Option (Name × Kind)). IsSome (lies_by t x)) (sym is)
    (kind_lies_some t formed d (domain_at t d) k refl (formed.objects a (Array d k) (array_object (get t (Object a)) d k is)))

pub the_one : {X : Type 0} (o : Option X) → IsSome o → (x : X) × (o ≡ Some x)
the_one None there = cc
the_one (Some x) there = (x, refl)

lying_there : (o : Option Pieced) → IsSome (option_map (λ p. p.1) o) → IsSome o
lying_there None there = cc
lying_there (Some p) there = refl

lying_none : (o : Option Pieced) → option_map (λ p. p.1) o ≡ None → o ≡ None
lying_none None e = refl
lying_none (Some p) e = cc

not_gone : (u b : Bool) (o : Option Pieced) → b ≡ true → cond (u && not b) None o ≡ o
not_gone true b o e = rw e refl
not_gone false b o e = refl

gone_now : (u b : Bool) (o : Option Pieced) → u ≡ true → b ≡ false → cond (u && not b) None o ≡ None
gone_now u b o e f = rw (e, f) refl

not_changed : (u b : Bool) (o : Option Pieced) → u ≡ false → cond (u && not b) None o ≡ o
not_changed u b o e = rw e refl

over_nothing : (o q : Option Pieced) → o ≡ None → put_over o q ≡ None
over_nothing o q e = rw e refl

one_lies : (p : Pieced) (l : LayoutMap × ℕ) → Some p.1 ≡ Some l → p.1 ≡ l
one_lies p l e = cc

lay_stored : (c : Cell) → is_lay c ≡ true → is_stored c ≡ true
lay_stored (Object n) lay = refl
lay_stored (Mapping d) lay = refl
lay_stored (Shape d) lay = refl
lay_stored (In d i) lay = cc
lay_stored (Member d i) lay = refl
lay_stored (Use d n) lay = refl
lay_stored (Implicit a) lay = refl
lay_stored (Element a i) lay = cc

module _ (cells : Stored) (arrays : BTreeMap Name Pieced) (delta : Changes) (kept : IsShelf cells arrays) (xs : Changes)
    (only : xs ≡ filter (λ x. is_stored x.cell) delta) where
  by_stored : (c : Cell) → is_stored c ≡ true → get (apply delta (cells_of cells arrays)) c ≡ get (apply xs (state_of cells)) c
  by_stored c st =
      sym (stored_only delta (cells_of cells arrays) (state_of cells) c st (get-state_of cells c ∙ stored_there cells arrays kept c st))
      ∙ ap (λ (ys : Changes). get (apply ys (state_of cells)) c) (sym only)

  -- an object that is not changed
  same_object : (b : Name) → changes cell_cmp xs (Object b) ≡ false →
      get (apply delta (cells_of cells arrays)) (Object b) ≡ get (cells_of cells arrays) (Object b)
  same_object b e =
      by_stored (Object b) refl
      ∙ apply_keeps cell_order xs (state_of cells) (Object b) e
      ∙ get-state_of cells (Object b) ∙ stored_there cells arrays kept (Object b) refl

  no_array : (b : Name) → array_at (cells_of cells arrays) b ≡ None → array_in arrays.entries b ≡ None
  no_array b none = lying_none (array_in arrays.entries b) (kept.lie b ∙ ap (lies_by (cells_of cells arrays)) none)

  an_array : (b d : Name) (k : Kind) → array_at (cells_of cells arrays) b ≡ Some (d, k) → IsSome (array_in arrays.entries b)
  an_array b d k is = lying_there (array_in arrays.entries b)
      (subst (λ (o : Option (LayoutMap × ℕ)). IsSome o) (sym (kept.lie b)) (lies_some (cells_of cells arrays) kept.well_formed b d k is))

  once_xs : AllOnce cell_cmp delta → AllOnce cell_cmp xs
  once_xs once = subst (λ (ys : Changes). AllOnce cell_cmp ys) (sym only) (once_stored delta once)

  -- where the cells are set that the changes give a value, what is there afterwards is there
  pub ready_there : AllOnce cell_cmp delta → (ready : Stored) → state_of ready ≡ apply (sets xs) (state_of cells) →
      (c : Cell) → is_stored c ≡ true → IsSome (get (apply delta (cells_of cells arrays)) c) →
      stored_in ready.entries c ≡ get (apply delta (cells_of cells arrays)) c
  ready_there once ready set c st present =
      let whole : get (apply delta (cells_of cells arrays)) c ≡ get (apply (clears xs) (apply (sets xs) (state_of cells))) c =
      by_stored c st ∙ ap (λ (u : Cells). get u c) (sym (sets_clears cell_order xs (state_of cells) (once_xs once))) in
      sym (get-state_of ready c) ∙ ap (λ (u : Cells). get u c) set
      ∙ sym (clears_there xs (apply (sets xs) (state_of cells)) c (subst (λ (o : Option Value). IsSome o) whole present)) ∙ sym whole

  pub agree_now : Agree arrays.entries (cells_of cells arrays)
  agree_now b i = sym (get-cells_of cells arrays kept (Element b i))

  -- ---- the changes were made

  module _ (once : AllOnce cell_cmp delta) (formed : IsWellFormed (apply delta (cells_of cells arrays))) (ready after : Stored)
      (grown fresh : List (Name × Pieced)) (built : List (Name × Pieced))
      (set : state_of ready ≡ apply (sets xs) (state_of cells))
      (cleared : state_of after ≡ apply (clears xs) (state_of ready))
      (others : (b : Name) → changes cell_cmp xs (Object b) ≡ false → array_in grown b ≡ array_in arrays.entries b)
      (elements : (b : Name) (i : Index) → element_in grown b i ≡ element_in arrays.entries b i)
      (there : (b : Name) → changes cell_cmp xs (Object b) ≡ true → is_array (stored_in ready.entries (Object b)) ≡ true → IsSome (array_in grown b))
      (gs : List (Name × Group))
      (lead : (b : Name) → LeadTo delta b (changes_in gs b))
      (objects : (b : Name) → changes cell_cmp delta (Object b) ≡ true → IsSome (group_in gs b))
      (ascending : IsStrictlySortedBy (slice_cmp nat_cmp) (keys_of gs))
      (walked : AreAfter (lies_at (stored_in ready.entries)) grown gs built)
      (last : (b : Name) → array_in fresh b ≡ cond (changes cell_cmp xs (Object b) && not (is_array (stored_in after.entries (Object b)))) None
      (put_over (array_in grown b) (array_in built b))) where
    after_is : state_of after ≡ apply (filter (λ x. is_stored x.cell) delta) (state_of cells)
    after_is = cleared ∙ ap (apply (clears xs)) set ∙ sets_clears cell_order xs (state_of cells) (once_xs once) ∙ ap (λ (ys : Changes). apply ys (state_of cells)) only

    ready_is : (c : Cell) → is_stored c ≡ true → IsSome (get (apply delta (cells_of cells arrays)) c) →
        stored_in ready.entries c ≡ get (apply delta (cells_of cells arrays)) c
    ready_is = ready_there once ready set

    no_longer : (b : Name) → array_at (apply delta (cells_of cells arrays)) b ≡ None → (u : Bool) → changes cell_cmp xs (Object b) ≡ u → array_in fresh b ≡ None
    no_longer b none true e =
        last b ∙ gone_now _ (is_array (stored_in after.entries (Object b))) _ e
        (ap is_array (stored_after cells after arrays delta kept after_is (Object b) refl) ∙ ap is_some none)
    no_longer b none false e =
        last b ∙ not_changed _ (is_array (stored_in after.entries (Object b))) _ e
        ∙ over_nothing (array_in grown b) (array_in built b) (others b e ∙ no_array b (sym (ap object_in (same_object b e)) ∙ none))

    was_there : (b d : Name) (k : Kind) → array_at (apply delta (cells_of cells arrays)) b ≡ Some (d, k) → (u : Bool) →
        changes cell_cmp xs (Object b) ≡ u → IsSome (array_in grown b)
    was_there b d k is true e =
        there b e (ap is_array (ready_is (Object b) refl (ap is_some (array_object (get (apply delta (cells_of cells arrays)) (Object b)) d k is)))
        ∙ ap is_some is)
    was_there b d k is false e = subst (λ (o : Option Pieced). IsSome o) (sym (others b e)) (an_array b d k (sym (ap object_in (same_object b e)) ∙ is))

    not_named : (b : Name) → group_in gs b ≡ None → changes cell_cmp delta (Object b) ≡ false
    not_named b none = not_true (changes cell_cmp delta (Object b)) (λ e. absurd (true≢false (sym (objects b e) ∙ ap is_some none)))

    -- an array that is there afterwards
    kept_one : (b d : Name) (k : Kind) → array_at (apply delta (cells_of cells arrays)) b ≡ Some (d, k) →
        (p : Pieced) × (array_in grown b ≡ Some p) × (array_in fresh b ≡ put_over (Some p) (array_in built b))
    kept_one b d k is =
        let found = the_one (array_in grown b) (was_there b d k is _ refl) in
        let kept_over : array_in fresh b ≡ put_over (Some found.0) (array_in built b) =
        last b
        ∙ not_gone (changes cell_cmp xs (Object b)) (is_array (stored_in after.entries (Object b))) (put_over (array_in grown b) (array_in built b))
        (ap is_array (stored_after cells after arrays delta kept after_is (Object b) refl) ∙ ap is_some is)
        ∙ ap (λ (o : Option Pieced). put_over o (array_in built b)) found.1 in
        (found.0, found.1, kept_over)

    -- how it should lie then
    lying_now : (b d : Name) (k : Kind) → array_at (apply delta (cells_of cells arrays)) b ≡ Some (d, k) →
        (l : LayoutMap × ℕ) × (lies_by (apply delta (cells_of cells arrays)) (array_at (apply delta (cells_of cells arrays)) b) ≡ Some l)
        × (lies_at (stored_in ready.entries) b ≡ Some l)
    lying_now b d k is =
        let t : Cells = apply delta (cells_of cells arrays) in
        let present : IsSome (get t (Object b)) = ap is_some (array_object (get t (Object b)) d k is) in
        let lie = the_one (lies_by t (array_at t b)) (lies_some t formed b d k is) in
        (lie.0, lie.1, lies_there (stored_in ready.entries) t formed ready_is b present ∙ lie.1)

    elements_now : (b : Name) (x : Option (Name × Kind)) → array_at (apply delta (cells_of cells arrays)) b ≡ x → (i : Index) →
        option_map Number (element_in fresh b i) ≡ get (apply delta (cells_of cells arrays)) (Element b i)
    elements_now b None none i =
        ap (λ (o : Option Pieced). option_map Number (option_and_then (λ x. lookup (is_at (index_cmp i)) x.0) o)) (no_longer b none _ refl)
        ∙ sym (none_elements (apply delta (cells_of cells arrays)) b formed none i)
    elements_now b (Some (d, k)) is i =
        let one = kept_one b d k is in
        let lying = lying_now b d k is in
        let step : HasElements (changes_in gs b) one.0 (array_in built b) =
        elements_all (lies_at (stored_in ready.entries)) grown gs built walked ascending b one.0 lying.0 one.1 lying.2 (group_in gs b) refl in
        let agree : Agree grown (cells_of cells arrays) = λ a j. ap (option_map Number) (elements a j) ∙ agree_now a j in
        ap (λ (o : Option Pieced). option_map Number (option_and_then (λ x. lookup (is_at (index_cmp i)) x.0) o)) one.2
        ∙ right_elements (cells_of cells arrays) grown delta b one.0 (array_in built b) (changes_in gs b) (lead b) agree one.1 step i

    -- the cells are those after the changes, however the arrays lie
    pub made_cells : (now : BTreeMap Name Pieced) → now.entries ≡ fresh → IsStrictlySortedBy cell_cmp (keys_of after.entries) →
        IsStrictlySortedBy (slice_cmp nat_cmp) (keys_of fresh) → cells_of after now ≡ apply delta (cells_of cells arrays)
    made_cells now is sorted by_name =
        cells_after after now (apply delta (cells_of cells arrays)) formed
        (stored_after cells after arrays delta kept after_is)
        (all_stored_after cells after delta kept.stored after_is)
        sorted
        (subst (λ (es : List (Name × Pieced)). IsStrictlySortedBy (slice_cmp nat_cmp) (keys_of es)) (sym is) by_name)
        (λ b i. subst (λ (es : List (Name × Pieced)). option_map Number (element_in es b i) ≡ get (apply delta (cells_of cells arrays)) (Element b i)) (sym is)
        (elements_now b _ refl i))

    -- an array that is not named rests where no object and no mapping that is there changes
    module _ (left : (b : Name) → IsSome (array_in arrays.entries b) → group_in gs b ≡ None → list_all (leaves (stored_in cells.entries)) delta ≡ true) where
      left_there : (b : Name) → IsSome (array_in arrays.entries b) → group_in gs b ≡ None → (c : Cell) → is_lay c ≡ true →
          IsSome (get (cells_of cells arrays) c) → IsSome (get (apply delta (cells_of cells arrays)) c) →
          get (apply delta (cells_of cells arrays)) c ≡ get (cells_of cells arrays) c
      left_there b there none c lay here present =
          left_alone (stored_in cells.entries) c lay (ap is_some (stored_there cells arrays kept c (lay_stored c lay)) ∙ here) delta (cells_of cells arrays)
          (left b there none) present

      -- an array that is not named lies as before
      rests : (b d : Name) (k : Kind) (p : Pieced) (l : LayoutMap × ℕ) → array_at (apply delta (cells_of cells arrays)) b ≡ Some (d, k) →
          array_in grown b ≡ Some p →
          lies_by (apply delta (cells_of cells arrays)) (array_at (apply delta (cells_of cells arrays)) b) ≡ Some l → group_in gs b ≡ None → p.1 ≡ l
      rests b d k p l is found lie none =
          let s : Cells = cells_of cells arrays in
          let t : Cells = apply delta s in
          let unchanged : changes cell_cmp xs (Object b) ≡ false = ap (λ (ys : Changes). changes cell_cmp ys (Object b)) only
          ∙ none_filtered delta (Object b) (not_named b none) in
          let was_found : array_in arrays.entries b ≡ Some p = sym (others b unchanged) ∙ found in
          let was : array_at s b ≡ Some (d, k) = sym (ap object_in (same_object b unchanged)) ∙ is in
          let same : lies_by t (array_at t b) ≡ lies_by s (array_at s b) =
          same_lies s t kept.well_formed formed (left_there b (ap is_some was_found) none) b d k was is in
          one_lies p l (ap (option_map (λ x. x.1)) (sym was_found) ∙ kept.lie b ∙ sym same ∙ lie)

      lies_now : (b : Name) (x : Option (Name × Kind)) → array_at (apply delta (cells_of cells arrays)) b ≡ x →
          option_map (λ p. p.1) (array_in fresh b) ≡ lies_by (apply delta (cells_of cells arrays)) (array_at (apply delta (cells_of cells arrays)) b)
      lies_now b None none =
          ap (λ (o : Option Pieced). option_map (λ p. p.1) o) (no_longer b none _ refl) ∙ sym (ap (lies_by (apply delta (cells_of cells arrays))) none)
      lies_now b (Some (d, k)) is =
          let t : Cells = apply delta (cells_of cells arrays) in
          let one = kept_one b d k is in
          let lying = lying_now b d k is in
          let step : IsAfter (changes_in gs b) lying.0 one.0 (array_in built b) =
          after_all (lies_at (stored_in ready.entries)) grown gs built walked ascending b one.0 lying.0 one.1 lying.2
          (rests b d k one.0 lying.0 is one.1 lying.1) (group_in gs b) refl in
          ap (λ (o : Option Pieced). option_map (λ p. p.1) o) one.2
          ∙ right_lies one.0 (array_in built b) lying.0 (changes_in gs b) (lies_by t (array_at t b)) (sym lying.1) step

      -- and each array lies by the mapping of its domain
      pub made_shelf : (now : BTreeMap Name Pieced) → now.entries ≡ fresh → IsStrictlySortedBy cell_cmp (keys_of after.entries) →
          IsStrictlySortedBy (slice_cmp nat_cmp) (keys_of fresh) → IsShelf after now
      made_shelf now is sorted by_name =
          let t : Cells = apply delta (cells_of cells arrays) in
          shelf_after after now t formed (made_cells now is sorted by_name) (all_stored_after cells after delta kept.stored after_is) sorted
          (subst (λ (es : List (Name × Pieced)). IsStrictlySortedBy (slice_cmp nat_cmp) (keys_of es)) (sym is) by_name)
          (λ b. subst (λ (es : List (Name × Pieced)). option_map (λ p. p.1) (array_in es b) ≡ lies_by t (array_at t b)) (sym is) (lies_now b _ refl))

  -- ---- they were taken back

  module _ (after : Stored) (grown fresh : List (Name × Pieced))
      (back : state_of after ≡ state_of cells)
      (others : (b : Name) → changes cell_cmp xs (Object b) ≡ false → array_in grown b ≡ array_in arrays.entries b)
      (stays : (b : Name) (p : Pieced) → array_in arrays.entries b ≡ Some p → array_in grown b ≡ Some p)
      (last : (b : Name) → array_in fresh b ≡ cond (changes cell_cmp xs (Object b) && not (is_array (stored_in after.entries (Object b)))) None
      (array_in grown b)) where
    stored_back : (c : Cell) → is_stored c ≡ true → stored_in after.entries c ≡ get (cells_of cells arrays) c
    stored_back c st = sym (get-state_of after c) ∙ ap (λ (u : Cells). get u c) back ∙ get-state_of cells c ∙ stored_there cells arrays kept c st

    never_there : (b : Name) → array_at (cells_of cells arrays) b ≡ None → (u : Bool) → changes cell_cmp xs (Object b) ≡ u → array_in fresh b ≡ None
    never_there b none true e = last b ∙ gone_now _ (is_array (stored_in after.entries (Object b))) _ e (ap is_array (stored_back (Object b) refl)
        ∙ ap is_some none)
    never_there b none false e = last b ∙ not_changed _ (is_array (stored_in after.entries (Object b))) _ e ∙ others b e ∙ no_array b none

    same_then : (b : Name) (x : Option (Name × Kind)) → array_at (cells_of cells arrays) b ≡ x → array_in fresh b ≡ array_in arrays.entries b
    same_then b None none = never_there b none _ refl ∙ sym (no_array b none)
    same_then b (Some (d, k)) is =
        let found = the_one (array_in arrays.entries b) (an_array b d k is) in
        last b
        ∙ not_gone (changes cell_cmp xs (Object b)) (is_array (stored_in after.entries (Object b))) (array_in grown b)
        (ap is_array (stored_back (Object b) refl) ∙ ap is_some is)
        ∙ stays b found.0 found.1 ∙ sym found.1

    pub taken_back : (now : BTreeMap Name Pieced) → now.entries ≡ fresh → IsStrictlySortedBy cell_cmp (keys_of after.entries) →
        IsStrictlySortedBy (slice_cmp nat_cmp) (keys_of fresh) → (cells_of after now ≡ cells_of cells arrays) × IsShelf after now
    taken_back now is sorted by_name =
        let s : Cells = cells_of cells arrays in
        let all = all_stored_by after.entries (λ c apart. sym (get-state_of after c) ∙ ap (λ (u : Cells). get u c) back ∙ get-state_of cells c
        ∙ none_stored cells.entries c apart kept.stored) in
        let ascending = subst (λ (es : List (Name × Pieced)). IsStrictlySortedBy (slice_cmp nat_cmp) (keys_of es)) (sym is) by_name in
        let same : (b : Name) → array_in now.entries b ≡ array_in arrays.entries b =
        λ b. ap (λ (es : List (Name × Pieced)). array_in es b) is ∙ same_then b _ refl in
        let cells_same : cells_of after now ≡ s = cells_after after now s kept.well_formed stored_back all sorted ascending
        (λ b i. ap (λ (o : Option Pieced). option_map Number (option_and_then (λ x. lookup (is_at (index_cmp i)) x.0) o)) (same b) ∙ agree_now b i) in (
          cells_same,
          shelf_after after now s kept.well_formed cells_same all sorted ascending
              (λ b. ap (λ (o : Option Pieced). option_map (λ p. p.1) o) (same b) ∙ kept.lie b),
        )
