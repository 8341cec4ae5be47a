-- Cells as sound lines tell of them are well formed.
use Rattle.std.proofs.Common.{◌≡◌, ℕ, ℤ, pos, ◌≤◌, Bool, true, false, ◌||◌, cond, List, [], ◌∷◌, length, Option, Some, None, is_some, option_map, refl, sym, ap}
use Rattle.std.proofs.Common.{◌∙◌, subst, le-leb, eqb-true, ◌==◌, arith, rules}
use Rattle.std.specs.Prelude.{FitsSigned, IfSome}
use Rattle.std.proofs.lemmas.List.Elements.{recursion_from_All}
use Rattle.std.specs.Int.{w64}
use Rattle.std.specs.Cmp.{Equal-is}
use Rattle.std.specs.FinMap.{get}
use Rattle.std.specs.List.{AllByRecursion, list_all, zip}
use Rattle.wb_dist.specs.Maps.{LayoutMap, whole, block, cyclic, block_cyclic, is_rank}
use Rattle.wb_cells.specs.declared.cells.cell.Cell.{Cell}
use Rattle.wb_cells.specs.declared.cells.cell.Cell.TheVariants.{Object, Shape, In, Member, Mapping, Use, Implicit, Element}
use Rattle.wb_cells.specs.declared.cells.kind.DomainKind.{DomainKind}
use Rattle.wb_cells.specs.declared.cells.kind.DomainKind.TheVariants as domains
use Rattle.wb_cells.specs.declared.cells.kind.Kind.{Kind}
use Rattle.wb_cells.specs.declared.cells.kind.Kind.TheVariants.{Rectangular, Sparse, Associative}
use Rattle.wb_cells.specs.declared.cells.value.Value.{Value}
use Rattle.wb_cells.specs.declared.cells.value.Value.TheVariants as values
use Rattle.wb_cells.specs.declared.cells.value.Binding.TheVariants as bindings
use Rattle.wb_cells.specs.declared.values.index.Index.{Index}
use Rattle.wb_cells.specs.Cells.{Name, Cells, index_cmp, index_cmp-IsAntisymmetric, is_same_name, is_same_index, same_names}
use Rattle.wb_cells.specs.Kinds.{kind_of, is_key, IsIndex}
use Rattle.wb_cells.specs.Layouts.{is_of_rank, IsMapping, IsLayout}
use Rattle.wb_cells.specs.Names.{is_name}
use Rattle.wb_cells.specs.Shapes.{indices}
use Rattle.wb_cells.specs.WellFormed.{IsWellFormed, IsObject, IsShape, HasMapping, IsMember, MayHave, IsImplicit, IsElement, domain_in, array_in, ranges_in}
use Rattle.wb_cells.specs.WellFormed.{inside_of, use_of, has, present_if, index_cell, is_index_of_array}
use Rattle.wb_text.specs.Said.{Line, rectangular, sparse, associative, array, name_of, first_line_of}
use Rattle.wb_text.proofs.Readable.{both}
use Rattle.wb_text.proofs.ReadIndices.{some_same}
use Rattle.wb_text.proofs.SameDomains.{none_some}
use Rattle.wb_text.specs.FromLines.Inserted.{or_else, last_of}
use Rattle.wb_text.specs.FromLines.Made.{IsMade}
use Rattle.wb_text.specs.FromLines.Told.{ranges_told, rank_told, kind_told, indices_told, implicit_told, is_domain, are_within, is_sound, told_by, told}

-- ---- what is known of the line of a name

-- of some line, if there is one
abbrev pub Of : (Line → Type 0) → Option Line → Type 0
Of P None = Unit {0}
Of P (Some l) = P l

pub record IsFit (ls : List Line) (n : Name) (l : Line) : Type 0 where
  pub named : n ≡ name_of l
  pub sound : is_sound ls l ≡ true
  pub made : IsMade l

pub fit_in : (ls more : List Line) (n : Name) → list_all (is_sound ls) more ≡ true → AllByRecursion IsMade more → Of (IsFit ls n) (first_line_of n more)
fit_in ls [] n h k = tt
fit_in ls (l ∷ more) n h k =
    let parts = both (is_sound ls l) (list_all (is_sound ls) more) h in
    elim (is_same_name n (name_of l)) as (λ b. is_same_name n (name_of l) ≡ b → Of (IsFit ls n) (cond b (Some l) (first_line_of n more))) [
      | true ↦ λ e. record { named = same_names n (name_of l) ((Equal-is _).0 e); sound = parts.0; made = k.0 }
      | false ↦ λ e. fit_in ls more n parts.1 k.1
    ] refl

-- ---- lists of indices

same_either : (P : Index → Type 0) (i j : Index) (b : Bool) → (is_same_index i j || b) ≡ true → P j → (b ≡ true → P i) → P i
same_either P i j b e here more =
    elim (is_same_index i j) as (λ t. is_same_index i j ≡ t → (t || b) ≡ true → P i) [
      | true ↦ λ t h. subst P (sym (index_cmp-IsAntisymmetric i j ((Equal-is _).0 t))) here
      | false ↦ λ t h. more h
    ] refl e

pub listed_passes : (p : Index → Bool) (is : List Index) (i : Index) → list_all p is ≡ true → has is i ≡ true → p i ≡ true
listed_passes p [] i h e = cc
listed_passes p (j ∷ is) i h e =
    let parts = both (p j) (list_all p is) h in
    same_either (λ x. p x ≡ true) i j (has is i) e parts.0 (λ t. listed_passes p is i parts.1 t)

listed_is : (P : Index → Type 0) (is : List Index) (i : Index) → AllByRecursion P is → has is i ≡ true → P i
listed_is P [] i h e = cc
listed_is P (j ∷ is) i h e = same_either P i j (has is i) e h.0 (λ t. listed_is P is i h.1 t)

-- ---- the tests of lines

parent_kind : (ls : List Line) (p : Name) (is : List Index) (o : Option Line) → are_within (ranges_told o) is ≡ true →
    domain_in (told_by ls o (Object p)) ≡ Some (domains.Rectangular (rank_told o))
parent_kind ls p is None e = cc
parent_kind ls p is (Some (rectangular d rs m)) e = refl
parent_kind ls p is (Some (sparse d parent js)) e = cc
parent_kind ls p is (Some (associative d type js)) e = cc
parent_kind ls p is (Some (array a d xs irv)) e = cc

parent_inside : (ls : List Line) (p : Name) (is : List Index) (i : Index) (o : Option Line) → are_within (ranges_told o) is ≡ true → has is i ≡ true →
    told_by ls o (In p i) ≡ Some values.Present
parent_inside ls p is i None e h = cc
parent_inside ls p is i (Some (rectangular d rs m)) e h = ap present_if (listed_passes (has (indices rs)) is i e h)
parent_inside ls p is i (Some (sparse d parent js)) e h = cc
parent_inside ls p is i (Some (associative d type js)) e h = cc
parent_inside ls p is i (Some (array a d xs irv)) e h = cc

kind_there : (ls : List Line) (d : Name) (o : Option Line) → is_domain o ≡ true →
    option_map kind_of (domain_in (told_by ls o (Object d))) ≡ Some (kind_told ls o)
kind_there ls d None e = cc
kind_there ls d (Some (rectangular f rs m)) e = refl
kind_there ls d (Some (sparse f parent is)) e = refl
kind_there ls d (Some (associative f type is)) e = refl
kind_there ls d (Some (array a f xs irv)) e = cc

is_there : (b : Bool) → is_some (present_if b) ≡ b
is_there true = refl
is_there false = refl

index_there : (ls : List Line) (d : Name) (i : Index) (o : Option Line) → is_domain o ≡ true →
    is_some (told_by ls o (index_cell (kind_told ls o) d i)) ≡ has (indices_told o) i
index_there ls d i None e = cc
index_there ls d i (Some (rectangular f rs m)) e = is_there (has (indices rs) i)
index_there ls d i (Some (sparse f parent is)) e = is_there (has is i)
index_there ls d i (Some (associative f type is)) e = is_there (has is i)
index_there ls d i (Some (array a f xs irv)) e = cc

-- ---- mappings

ranked : (rank : ℕ) → 1 ≤ rank → rank ≤ 3 → is_rank rank ≡ true
ranked rank low high = rw (le-leb 1 rank low, le-leb rank 3 high) refl

of_rank : (rank : ℕ) (m : LayoutMap) → 1 ≤ rank → rank ≤ 3 → IsLayout m → is_of_rank rank m ≡ true → IsMapping rank m
of_rank rank whole low high h e = record { valid = ranked rank low high; in_limits = tt }
of_rank rank (block m) low high h e = subst (λ r. IsMapping r (block m)) (sym (eqb-true rank (length m.grid) e)) h
of_rank rank (cyclic m) low high h e = subst (λ r. IsMapping r (cyclic m)) (sym (eqb-true rank (length m.grid) e)) h
of_rank rank (block_cyclic m) low high h e = subst (λ r. IsMapping r (block_cyclic m)) (sym (eqb-true rank (length m.grid) e)) h

-- ---- elements

number_more : (h b : Bool) (r : Option ℤ) (x : ℤ) → IsElement h (option_map (λ z. values.Number z) r) → FitsSigned w64 x
    → IsElement (b || h) (option_map (λ z. values.Number z) (or_else r (cond b (Some x) None)))
number_more h false r x is fits = is
number_more true true None x is fits = (x, refl, fits)
number_more true true (Some y) x is fits = is
number_more false true None x is fits = (x, refl, fits)
number_more false true (Some y) x is fits = none_some _ (sym is)

element_there : (is : List Index) (xs : List ℤ) (i : Index) → length is ≡ length xs → AllByRecursion (FitsSigned w64) xs →
    IsElement (has is i) (option_map (λ z. values.Number z) (last_of index_cmp (zip is xs) i))
element_there [] xs i e h = refl
element_there (j ∷ is) [] i e h = absurd (omega (arith, e))
element_there (j ∷ is) (x ∷ xs) i e h = number_more (has is i) (is_same_index i j) (last_of index_cmp (zip is xs) i) x
    (element_there is xs i (omega (arith, e)) h.1) h.0

-- ---- each cell

cond_else : (b : Bool) (v : Value) → cond b (Some v) None ≡ elim b [ true ↦ Some v | false ↦ None ]
cond_else true v = refl
cond_else false v = refl

name_told : (ls : List Line) (n : Name) (o : Option Line) (v : Value) → Of (IsFit ls n) o → told_by ls o (Object n) ≡ Some v → is_name n ≡ true
name_told ls n None v h e = none_some v e
name_told ls n (Some (rectangular d rs m)) v h e = ap is_name h.named ∙ h.made.0
name_told ls n (Some (sparse d parent is)) v h e = ap is_name h.named ∙ h.made
name_told ls n (Some (associative d type is)) v h e = ap is_name h.named ∙ h.made.0
name_told ls n (Some (array a d xs irv)) v h e = ap is_name h.named ∙ h.made.0

shape_told : (ls : List Line) (n : Name) (o : Option Line) → Of (IsFit ls n) o → IsShape (domain_in (told_by ls o (Object n))) (told_by ls o (Shape n))
shape_told ls n None h = refl
shape_told ls n (Some (rectangular d rs m)) h = (rs, refl, h.made.1)
shape_told ls n (Some (sparse d parent is)) h = refl
shape_told ls n (Some (associative d type is)) h = refl
shape_told ls n (Some (array a d xs irv)) h = refl

inside_told : (ls : List Line) (n : Name) (i : Index) (o : Option Line) → told_by ls o (In n i) ≡ inside_of (ranges_in (told_by ls o (Shape n))) i
inside_told ls n i None = refl
inside_told ls n i (Some (rectangular d rs m)) = refl
inside_told ls n i (Some (sparse d parent is)) = refl
inside_told ls n i (Some (associative d type is)) = refl
inside_told ls n i (Some (array a d xs irv)) = refl

mapping_told : (ls : List Line) (n : Name) (o : Option Line) → Of (IsFit ls n) o → HasMapping (domain_in (told_by ls o (Object n))) (told_by ls o (Mapping n))
mapping_told ls n None h = refl
mapping_told ls n (Some (rectangular d rs m)) h = (m, refl, of_rank (length rs) m h.made.1.at_least_one h.made.1.at_most_three h.made.2 h.sound)
mapping_told ls n (Some (sparse d parent is)) h = refl
mapping_told ls n (Some (associative d type is)) h = refl
mapping_told ls n (Some (array a d xs irv)) h = refl

use_told : (ls : List Line) (d n : Name) (o : Option Line) → told_by ls o (Use d n) ≡ use_of d (told_by ls o (Object n))
use_told ls d n None = refl
use_told ls d n (Some (rectangular f rs m)) = refl
use_told ls d n (Some (sparse f parent is)) = cond_else (is_same_name d parent) (values.Bound bindings.Sparse)
use_told ls d n (Some (associative f type is)) = refl
use_told ls d n (Some (array a f xs irv)) = cond_else (is_same_name d f) (values.Bound bindings.Array)

zero_fits : FitsSigned w64 (pos 0)
zero_fits = search rules

implicit_kind : (d : Name) (kind : Kind) (irv : Option ℤ) → IfSome irv (FitsSigned w64) →
    IsImplicit (Some (d, kind)) (Some (values.Number (implicit_told kind irv)))
implicit_kind d (Rectangular rank) irv h = refl
implicit_kind d (Sparse rank) None h = (pos 0, refl, zero_fits)
implicit_kind d (Sparse rank) (Some z) h = (z, refl, h)
implicit_kind d (Associative type) irv h = refl

implicit_by : (ls : List Line) (n : Name) (o : Option Line) → Of (IsFit ls n) o → IsImplicit (array_in (told_by ls o (Object n))) (told_by ls o (Implicit n))
implicit_by ls n None h = refl
implicit_by ls n (Some (rectangular d rs m)) h = refl
implicit_by ls n (Some (sparse d parent is)) h = refl
implicit_by ls n (Some (associative d type is)) h = refl
implicit_by ls n (Some (array a d xs irv)) h = implicit_kind d (kind_told ls (first_line_of d ls)) irv h.made.2

-- the line that tells of the cell of an index is that of the domain
cell_told : (ls : List Line) (d : Name) (i : Index) (kind : Kind) → told ls (index_cell kind d i) ≡ told_by ls (first_line_of d ls) (index_cell kind d i)
cell_told ls d i (Rectangular rank) = refl
cell_told ls d i (Sparse rank) = refl
cell_told ls d i (Associative type) = refl

-- ---- the workbook

module _ (ls : List Line) (s : Cells) (distinct : list_all (is_sound ls) ls ≡ true) (made : AllByRecursion IsMade ls)
    (as_told : (c : Cell) → get s c ≡ told ls c) where
  fit : (n : Name) → Of (IsFit ls n) (first_line_of n ls)
  fit n = fit_in ls ls n distinct made

  object_made : (n : Name) (o : Option Line) (v : Value) → Of (IsFit ls n) o → told_by ls o (Object n) ≡ Some v → IsObject s v
  object_made n None v h e = none_some v e
  object_made n (Some (rectangular d rs m)) v h e = subst (IsObject s) (some_same _ v e) tt
  object_made n (Some (sparse d parent is)) v h e =
      subst (IsObject s) (some_same _ v e) (ap domain_in (as_told (Object parent)) ∙ parent_kind ls parent is (first_line_of parent ls) h.sound)
  object_made n (Some (associative d type is)) v h e = subst (IsObject s) (some_same _ v e) tt
  object_made n (Some (array a d xs irv)) v h e =
      subst (IsObject s) (some_same _ v e)
      (ap (λ w. option_map kind_of (domain_in w)) (as_told (Object d)) ∙
      kind_there ls d (first_line_of d ls) (both (is_domain (first_line_of d ls)) _ h.sound).0)

  member_if : (kind : Option DomainKind) (i : Index) (b : Bool) → (b ≡ true → MayHave s kind i) → IsMember s kind i (present_if b)
  member_if kind i true h = (refl, h refl)
  member_if kind i false h = tt

  member_made : (n : Name) (i : Index) (o : Option Line) → Of (IsFit ls n) o → IsMember s (domain_in (told_by ls o (Object n))) i (told_by ls o (Member n i))
  member_made n i None h = tt
  member_made n i (Some (rectangular d rs m)) h = tt
  member_made n i (Some (sparse d parent is)) h =
      member_if (Some (domains.Sparse parent (rank_told (first_line_of parent ls)))) i (has is i)
      (λ there. as_told (In parent i) ∙ parent_inside ls parent is i (first_line_of parent ls) h.sound there)
  member_made n i (Some (associative d type is)) h =
      member_if (Some (domains.Associative type)) i (has is i) (λ there.
      (listed_passes (is_key (Associative type)) is i h.sound there, listed_is IsIndex is i (recursion_from_All IsIndex is h.made.1) there))
  member_made n i (Some (array a d xs irv)) h = tt

  element_made : (n : Name) (i : Index) (o : Option Line) → Of (IsFit ls n) o →
      IsElement (is_index_of_array s (array_in (told_by ls o (Object n))) i) (told_by ls o (Element n i))
  element_made n i None h = refl
  element_made n i (Some (rectangular d rs m)) h = refl
  element_made n i (Some (sparse d parent is)) h = refl
  element_made n i (Some (associative d type is)) h = refl
  element_made n i (Some (array a d xs irv)) h =
      let over : Option Line = first_line_of d ls in
      let tests = both (is_domain (first_line_of d ls)) (length (indices_told (first_line_of d ls)) == length xs) h.sound in
      let index : is_some (get s (index_cell (kind_told ls (first_line_of d ls)) d i)) ≡ has (indices_told (first_line_of d ls)) i =
      ap is_some (as_told (index_cell (kind_told ls (first_line_of d ls)) d i)) ∙ ap is_some (cell_told ls d i (kind_told ls (first_line_of d ls))) ∙
      index_there ls d i (first_line_of d ls) tests.0 in
      subst (λ b. IsElement b (option_map (λ z. values.Number z) (last_of index_cmp (zip (indices_told (first_line_of d ls)) xs) i))) (sym index)
      (element_there (indices_told (first_line_of d ls)) xs i (eqb-true _ _ tests.1) (recursion_from_All (FitsSigned w64) xs h.made.1))

  pub well_made : IsWellFormed s
  well_made = record {
    names = λ n v e. name_told ls n (first_line_of n ls) v (fit n) (sym (as_told (Object n)) ∙ e);
    objects = λ n v e. object_made n (first_line_of n ls) v (fit n) (sym (as_told (Object n)) ∙ e);
    shapes = λ d. rw (as_told (Object d), as_told (Shape d)) (shape_told ls d (first_line_of d ls) (fit d));
    insides = λ d i. rw (as_told (In d i), as_told (Shape d)) (inside_told ls d i (first_line_of d ls));
    members = λ d i. rw (as_told (Object d), as_told (Member d i)) (member_made d i (first_line_of d ls) (fit d));
    mappings = λ d. rw (as_told (Object d), as_told (Mapping d)) (mapping_told ls d (first_line_of d ls) (fit d));
    uses = λ d n. rw (as_told (Use d n), as_told (Object n)) (use_told ls d n (first_line_of n ls));
    implicits = λ a. rw (as_told (Object a), as_told (Implicit a)) (implicit_by ls a (first_line_of a ls) (fit a));
    elements = λ a i. rw (as_told (Object a), as_told (Element a i)) (element_made a i (first_line_of a ls) (fit a));
  }
