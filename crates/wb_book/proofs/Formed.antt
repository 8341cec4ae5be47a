-- After changes the elements of each array stand at indices of its rank, and what changes of elements set are numbers.
use Rattle.std.proofs.Common.{◌≡◌, ℕ, zero, suc, ◌≤◌, ℤ, Bool, true, false, true≢false, cond, ◌&&◌, List, [], ◌∷◌, length, filter, Option, Some, None}
use Rattle.std.proofs.Common.{ltb, is_some, IsSome, arith, refl, sym, ap, subst, ◌∙◌}
use Rattle.std.specs.BTreeMap.{BTreeMap, is_at}
use Rattle.std.specs.Cmp.{tied_itself}
use Rattle.std.specs.Cmp.Lexicographic.{slice_cmp, nat_list_cmp_total}
use Rattle.std.specs.declared.cmp.Ordering.TheVariants.{Less}
use Rattle.std.specs.FinMap.{get}
use Rattle.std.specs.List.{list_all, AllByRecursion}
use Rattle.std.specs.List.Sorted.{IsStrictlySortedBy}
use Rattle.std.specs.Map.{lookup, keys_of}
use Rattle.std.specs.Option.{option_map, option_and_then}
use Rattle.std.specs.Ordering.{is_eq, nat_cmp}
use Rattle.std.proofs.lemmas.Bool.{eq-eqb, ltb-true}
use Rattle.selective_undo.specs.Changes.{applied, apply, AllOnce, sets}
use Rattle.selective_undo.proofs.Changes.{get-put, is_itself, apply_keeps}
use Rattle.wb_dist.specs.Maps.{LayoutMap, whole}
use Rattle.wb_cells.specs.declared.cells.cell.Cell.{Cell}
use Rattle.wb_cells.specs.declared.cells.cell.Cell.TheVariants.{Object, Shape, In, Member, Mapping, Use, Implicit, Element}
use Rattle.wb_cells.specs.declared.cells.kind.DomainKind.{DomainKind}
use Rattle.wb_cells.specs.declared.cells.kind.DomainKind.TheVariants.{Rectangular, Sparse, Associative}
use Rattle.wb_cells.specs.declared.cells.kind.KeyType.TheVariants.{Int, Text}
use Rattle.wb_cells.specs.declared.cells.kind.Kind.{Kind}
use Rattle.wb_cells.specs.declared.cells.value.Value.{Value}
use Rattle.wb_cells.specs.declared.cells.value.Value.TheVariants.{Domain, Array, Ranges, Mapping as mapping_value, Present, Bound, Number}
use Rattle.wb_cells.specs.declared.values.index.Index.{Index}
use Rattle.wb_cells.specs.declared.values.index.Index.TheVariants.{Point, Text as text_index}
use Rattle.wb_cells.specs.Cells.{Stored, Name, Cells, Changes, cell_cmp, cell_order, index_cmp, is_same_name, state_of}
use Rattle.wb_cells.specs.Kinds.{kind_of, is_key, is_point}
use Rattle.wb_cells.specs.Layouts.{is_of_rank}
use Rattle.wb_cells.specs.Locales.{mapping_in}
use Rattle.wb_cells.specs.Shapes.{Range, indices}
use Rattle.wb_cells.specs.WellFormed.{IsWellFormed, IsRectangle, IsShape, IsMember, IsElement, is_index_of_array, index_cell, inside_of, present_if, has}
use Rattle.wb_cells.specs.WellFormed.{ranges_in, domain_at, domain_in, array_at}
use Rattle.wb_cells.proofs.Inside.{has_no_text, length-inside}
use Rattle.wb_elements.specs.Piecewise.Changed.{changed_at}
use Rattle.wb_elements.specs.Piecewise.Seen.{is_of_form, MayLie}
use Rattle.wb_book.specs.Joined.{stored_in, element_in}
use Rattle.wb_book.specs.After.{is_for, lies_for, kind_lies, object_lies, lies_at, IsFormed, AreFormed}
use Rattle.wb_book.specs.Groups.{Group, group_in, changes_of, changes_in, is_plain, sets_plain, is_numeric, LeadTo}
use Rattle.wb_book.specs.Joined.{is_stored}
use Rattle.wb_book.specs.Kept.{Pieced, array_in}
use Rattle.wb_book.specs.Shelf.{cells_of, IsShelf, lies_by, mapping_of}
use Rattle.wb_book.proofs.Applied.{lies_there, none_elements}
use Rattle.wb_book.proofs.ElementsSet.{both_true}
use Rattle.wb_book.proofs.Moved.{none_above}
use Rattle.wb_book.proofs.Present.{domain_object, array_object}
use Rattle.wb_book.proofs.Whole.{the_one, ready_there, agree_now}
use Rattle.wb_book.proofs.Written.{one_name}

-- ---- how an array lies by stored cells, its elements may lie

right_may : (rank : ℕ) (m : LayoutMap) → is_for rank m ≡ true → MayLie m rank
right_may zero m right = absurd (true≢false (sym right))
right_may (suc n) m right =
    let parts = both_true (ltb (suc n) 4) (is_of_rank (suc n) m) (both_true (ltb 0 (suc n)) (ltb (suc n) 4 && is_of_rank (suc n) m) right).1 in
    let low = ltb-true (suc n) 4 parts.0 in
    (omega (arith, low), parts.1)

for_may : (rank : ℕ) (m : LayoutMap) (l : LayoutMap × ℕ) (b : Bool) → is_for rank m ≡ b → cond b (Some (m, rank)) None ≡ Some l → MayLie l.0 l.1
for_may rank m l true right is = let same : (m, rank) ≡ l = cc in subst (λ (x : LayoutMap × ℕ). MayLie x.0 x.1) same (right_may rank m right)
for_may rank m l false right is = cc

mapped_may : (rank : ℕ) (o : Option LayoutMap) (l : LayoutMap × ℕ) → option_and_then (lies_for rank) o ≡ Some l → MayLie l.0 l.1
mapped_may rank None l is = cc
mapped_may rank (Some m) l is = for_may rank m l (is_for rank m) refl is

kind_may : (stored : Cell → Option Value) (d : Name) (k : Option DomainKind) (l : LayoutMap × ℕ) → kind_lies stored d k ≡ Some l → MayLie l.0 l.1
kind_may stored d None l is = cc
kind_may stored d (Some (Rectangular rank)) l is = mapped_may rank (mapping_in (stored (Mapping d))) l is
kind_may stored d (Some (Sparse parent rank)) l is = mapped_may rank (mapping_in (stored (Mapping parent))) l is
kind_may stored d (Some (Associative Int)) l is =
    let same : (whole, 1) ≡ l = cc in subst (λ (x : LayoutMap × ℕ). MayLie x.0 x.1) same (omega arith, refl)
kind_may stored d (Some (Associative Text)) l is =
    let same : (whole, 0) ≡ l = cc in subst (λ (x : LayoutMap × ℕ). MayLie x.0 x.1) same refl

object_may : (stored : Cell → Option Value) (o : Option Value) (l : LayoutMap × ℕ) → object_lies stored o ≡ Some l → MayLie l.0 l.1
object_may stored None l is = cc
object_may stored (Some (Array d kind)) l is = kind_may stored d (domain_in (stored (Object d))) l is
object_may stored (Some (Domain k)) l is = cc
object_may stored (Some (Ranges rs)) l is = cc
object_may stored (Some (mapping_value m)) l is = cc
object_may stored (Some Present) l is = cc
object_may stored (Some (Bound k)) l is = cc
object_may stored (Some (Number z)) l is = cc

pub lies_may : (stored : Cell → Option Value) (a : Name) (l : LayoutMap × ℕ) → lies_at stored a ≡ Some l → MayLie l.0 l.1
lies_may stored a l is = object_may stored (stored (Object a)) l is

-- ---- an index of a domain has the form of its rank

pub form_of_point : (r : ℕ) (i : Index) → 1 ≤ r → is_point r i ≡ true → is_of_form r i ≡ true
form_of_point zero i some point = absurd (omega (arith, some))
form_of_point (suc r) i some point = point

pub point_within : (r : ℕ) (rs : List Range) (i : Index) → length rs ≡ r → has (indices rs) i ≡ true → is_point r i ≡ true
point_within r rs (Point is) long there = eq-eqb (length is) r (length-inside rs is there ∙ long)
point_within r rs (text_index t) long there = let no : false ≡ true = has_no_text rs t ∙ there in cc

if_present : (b : Bool) → is_some (present_if b) ≡ true → b ≡ true
if_present true there = refl
if_present false there = cc

ranked : (r : ℕ) (o : Option LayoutMap) (l : LayoutMap × ℕ) → option_map (λ m. (m, r)) o ≡ Some l → r ≡ l.1
ranked r None l is = cc
ranked r (Some m) l is = let same : (m, r) ≡ l = cc in ap (λ (x : LayoutMap × ℕ). x.1) same

a_kind : (o : Option DomainKind) (kind : Kind) → option_map kind_of o ≡ Some kind → (k : DomainKind) × (o ≡ Some k) × (kind_of k ≡ kind)
a_kind None kind is = cc
a_kind (Some k) kind is = let same : kind_of k ≡ kind = cc in (k, refl, same)

has_element : (b : Bool) (v : Option Value) → IsElement b v → is_some v ≡ true → b ≡ true
has_element true v element there = refl
has_element false v element there = absurd (true≢false (sym there ∙ ap is_some element))

module _ (t : Cells) (formed : IsWellFormed t) where
  within_ranges : (d : Name) (r : ℕ) (i : Index) → domain_at t d ≡ Some (Rectangular r) → is_some (get t (In d i)) ≡ true →
      (rs : List Range) × IsRectangle r rs × (has (indices rs) i ≡ true)
  within_ranges d r i is there =
      let shape = subst (λ (k : Option DomainKind). IsShape k (get t (Shape d))) is (formed.shapes d) in
      let inside : get t (In d i) ≡ inside_of (Some shape.0) i = formed.insides d i ∙ ap (λ (v : Option Value). inside_of (ranges_in v) i) shape.1 in
      (shape.0, shape.2, if_present (has (indices shape.0) i) (sym (ap is_some inside) ∙ there))

  within_point : (d : Name) (r : ℕ) (i : Index) → domain_at t d ≡ Some (Rectangular r) → is_some (get t (In d i)) ≡ true → is_point r i ≡ true
  within_point d r i is there =
      let within = within_ranges d r i is there in
      point_within r within.0 i within.1.dimensions within.2

  within_form : (d : Name) (r : ℕ) (i : Index) → domain_at t d ≡ Some (Rectangular r) → is_some (get t (In d i)) ≡ true → is_of_form r i ≡ true
  within_form d r i is there =
      let within = within_ranges d r i is there in
      let rectangle : IsRectangle r within.0 = within.1 in
      form_of_point r i rectangle.at_least_one (point_within r within.0 i rectangle.dimensions within.2)

  member_of : (d : Name) (k : DomainKind) (i : Index) → domain_at t d ≡ Some k → is_some (get t (Member d i)) ≡ true →
      (v : Value) × IsMember t (Some k) i (Some v)
  member_of d k i is there =
      let one = the_one (get t (Member d i)) there in (
        one.0,
        subst (λ (o : Option Value). IsMember t (Some k) i o) one.1
            (subst (λ (j : Option DomainKind). IsMember t j i (get t (Member d i))) is (formed.members d i)),
      )

  kind_form : (d : Name) (k : DomainKind) (i : Index) (l : LayoutMap × ℕ) → domain_at t d ≡ Some k → is_some (get t (index_cell (kind_of k) d i)) ≡ true →
      mapping_of t d (Some k) ≡ Some l → is_of_form l.1 i ≡ true
  kind_form d (Rectangular r) i l is there lie =
      subst (λ (n : ℕ). is_of_form n i ≡ true) (ranked r (mapping_in (get t (Mapping d))) l lie) (within_form d r i is there)
  kind_form d (Sparse parent r) i l is there lie =
      let member = member_of d (Sparse parent r) i is there in
      let over : domain_at t parent ≡ Some (Rectangular r) =
      formed.objects d (Domain (Sparse parent r)) (domain_object (get t (Object d)) (Sparse parent r) is) in
      subst (λ (n : ℕ). is_of_form n i ≡ true) (ranked r (mapping_in (get t (Mapping parent))) l lie)
      (within_form parent r i over (ap is_some member.1.1))
  kind_form d (Associative Int) i l is there lie =
      let member = member_of d (Associative Int) i is there in
      let same : (whole, 1) ≡ l = cc in
      subst (λ (x : LayoutMap × ℕ). is_of_form x.1 i ≡ true) same member.1.1.0
  kind_form d (Associative Text) i l is there lie =
      let member = member_of d (Associative Text) i is there in
      let same : (whole, 0) ≡ l = cc in
      subst (λ (x : LayoutMap × ℕ). is_of_form x.1 i ≡ true) same member.1.1.0

  -- where an array has an element, the index is of the rank that the array lies by
  array_form : (b : Name) (i : Index) (l : LayoutMap × ℕ) (x : Option (Name × Kind)) → array_at t b ≡ x → is_some (get t (Element b i)) ≡ true →
      lies_by t x ≡ Some l → is_of_form l.1 i ≡ true
  array_form b i l None is there lie = cc
  array_form b i l (Some (d, kind)) is there lie =
      let index : is_index_of_array t (Some (d, kind)) i ≡ true =
      has_element (is_index_of_array t (Some (d, kind)) i) (get t (Element b i))
      (subst (λ (o : Option (Name × Kind)). IsElement (is_index_of_array t o i) (get t (Element b i))) is (formed.elements b i)) there in
      let over = a_kind (domain_at t d) kind (formed.objects b (Array d kind) (array_object (get t (Object b)) d kind is)) in
      kind_form d over.0 i l over.1 (ap (λ (j : Kind). is_some (get t (index_cell j d i))) over.2 ∙ index)
      (ap (mapping_of t d) (sym over.1) ∙ lie)

  kind_key : (d : Name) (k : DomainKind) (i : Index) → domain_at t d ≡ Some k → is_some (get t (index_cell (kind_of k) d i)) ≡ true →
      is_key (kind_of k) i ≡ true
  kind_key d (Rectangular r) i is there = within_point d r i is there
  kind_key d (Sparse parent r) i is there =
      let member = member_of d (Sparse parent r) i is there in
      let over : domain_at t parent ≡ Some (Rectangular r) =
      formed.objects d (Domain (Sparse parent r)) (domain_object (get t (Object d)) (Sparse parent r) is) in
      within_point parent r i over (ap is_some member.1.1)
  kind_key d (Associative type) i is there =
      let member = member_of d (Associative type) i is there in
      member.1.1.0

  -- where there is an element, there is the array, and the index is of its domain's kind
  pub element_of : (b : Name) (i : Index) → is_some (get t (Element b i)) ≡ true →
      (x : Name × Kind) × (get t (Object b) ≡ Some (Array x.0 x.1)) × (is_key x.1 i ≡ true)
  element_of b i there = by (array_at t b) refl
    where
      by : (o : Option (Name × Kind)) → array_at t b ≡ o → (x : Name × Kind) × (get t (Object b) ≡ Some (Array x.0 x.1)) × (is_key x.1 i ≡ true)
      by None is = absurd (true≢false (sym there ∙ ap is_some (none_elements t b formed is i)))
      by (Some (d, kind)) is =
          let object : get t (Object b) ≡ Some (Array d kind) = array_object (get t (Object b)) d kind is in
          let index : is_index_of_array t (Some (d, kind)) i ≡ true =
          has_element (is_index_of_array t (Some (d, kind)) i) (get t (Element b i))
          (subst (λ (o : Option (Name × Kind)). IsElement (is_index_of_array t o i) (get t (Element b i))) is (formed.elements b i)) there in
          let over = a_kind (domain_at t d) kind (formed.objects b (Array d kind) object) in (
            (d, kind),
            object,
            subst (λ (k : Kind). is_key k i ≡ true) over.2
                (kind_key d over.0 i over.1 (ap (λ (j : Kind). is_some (get t (index_cell j d i))) over.2 ∙ index)),
          )

  object_present : (b : Name) (i : Index) (x : Option (Name × Kind)) → array_at t b ≡ x → is_some (get t (Element b i)) ≡ true → IsSome (get t (Object b))
  object_present b i None is there = absurd (true≢false (sym there ∙ ap is_some (none_elements t b formed is i)))
  object_present b i (Some (d, kind)) is there = ap is_some (array_object (get t (Object b)) d kind is)

-- ---- the arrays that are named

mapped_there : (o : Option ℤ) → IsSome o → is_some (option_map Number o) ≡ true
mapped_there None there = cc
mapped_there (Some z) there = refl

module _ (lies : Name → Option (LayoutMap × ℕ)) (arrays : List (Name × Pieced)) where
  named_first : (g : Name × Group) (gs : List (Name × Group)) → group_in (g ∷ gs) g.0 ≡ Some g.1
  named_first g gs = ap (λ (b : Bool). cond b (Some g.1) (group_in gs g.0)) (ap is_eq (tied_itself nat_list_cmp_total g.0))

  named_later : (g : Name × Group) (gs : List (Name × Group)) (b : Name) (xs : Group) → AllByRecursion (λ y. slice_cmp nat_cmp g.0 y ≡ Less) (keys_of gs) →
      group_in gs b ≡ Some xs → group_in (g ∷ gs) b ≡ Some xs
  named_later g gs b xs above named = by (is_same_name b g.0) refl
    where
      by : (same : Bool) → is_same_name b g.0 ≡ same → cond same (Some g.1) (group_in gs b) ≡ Some xs
      by false e = named
      by true e = let none : group_in gs b ≡ None = ap (group_in gs) (one_name b g.0 e) ∙ none_above g.0 gs above in cc

  pub each_formed : (gs : List (Name × Group)) → IsStrictlySortedBy (slice_cmp nat_cmp) (keys_of gs) →
      ((b : Name) (xs : Group) → group_in gs b ≡ Some xs → (p : Pieced) (l : LayoutMap × ℕ) → array_in arrays b ≡ Some p → lies b ≡ Some l →
      IsFormed xs l p.0) → AreFormed lies arrays gs
  unfolding IsStrictlySortedBy
  each_formed [] s one = tt
  each_formed (g ∷ gs) s one = (
    one g.0 g.1 (named_first g gs),
    each_formed gs s.1 (λ b xs named. one b xs (named_later g gs b xs s.0 named)),
  )

module _ (cells : Stored) (arrays : BTreeMap Name Pieced) (delta : Changes) (kept : IsShelf cells arrays) (xs : Changes)
    (only : xs ≡ filter (λ x. is_stored x.cell) delta) (once : AllOnce cell_cmp delta) (formed : IsWellFormed (apply delta (cells_of cells arrays)))
    (gs : List (Name × Group)) (lead : (b : Name) → LeadTo delta b (changes_in gs b)) (ascending : IsStrictlySortedBy (slice_cmp nat_cmp) (keys_of gs))
    (ready : Stored) (grown : List (Name × Pieced)) (set : state_of ready ≡ apply (sets xs) (state_of cells))
    (elements : (b : Name) (i : Index) → element_in grown b i ≡ element_in arrays.entries b i) where
  one_formed : (b : Name) (p : Pieced) (l : LayoutMap × ℕ) → array_in grown b ≡ Some p → lies_at (stored_in ready.entries) b ≡ Some l →
      IsFormed (changes_in gs b) l p.0
  one_formed b p l found lie i there =
      let s : Cells = cells_of cells arrays in
      let t : Cells = apply delta s in
      let o : Option ℤ = lookup (is_at (index_cmp i)) p.0 in
      let was : option_map Number o ≡ get s (Element b i) =
      ap (λ (z : Option Pieced). option_map Number (option_and_then (λ x. lookup (is_at (index_cmp i)) x.0) z)) (sym found)
      ∙ ap (option_map Number) (elements b i) ∙ agree_now cells arrays delta kept xs only b i in
      let here : is_some (get t (Element b i)) ≡ true =
      sym (ap is_some (lead b s o i was)) ∙ mapped_there (changed_at (changes_in gs b) o i) there in
      let present : IsSome (get t (Object b)) = object_present t formed b i (array_at t b) refl here in
      array_form t formed b i l (array_at t b) refl here
      (sym (lies_there (stored_in ready.entries) t formed (ready_there cells arrays delta kept xs only once ready set) b present) ∙ lie)

  -- each array that is named
  pub all_formed : AreFormed (lies_at (stored_in ready.entries)) grown gs
  all_formed =
      each_formed (lies_at (stored_in ready.entries)) grown gs ascending (λ b ys named p l found lie.
      subst (λ (zs : Group). IsFormed zs l p.0) (ap changes_of named) (one_formed b p l found lie))

-- ---- what changes of elements set

plain_at : (c : Cell) (v : Option Value) (u : Cells) → get u c ≡ v → ((a : Name) (i : Index) → is_plain (get u (Element a i)) ≡ true) → sets_plain c v ≡ true
plain_at (Object n) v u is plain = refl
plain_at (Shape d) v u is plain = refl
plain_at (In d i) v u is plain = refl
plain_at (Member d i) v u is plain = refl
plain_at (Mapping d) v u is plain = refl
plain_at (Use d n) v u is plain = refl
plain_at (Implicit a) v u is plain = refl
plain_at (Element a i) v u is plain = ap is_plain (sym is) ∙ plain a i

all_plain : (xs : Changes) (s : Cells) → AllOnce cell_cmp xs → ((a : Name) (i : Index) → is_plain (get (apply xs s) (Element a i)) ≡ true) →
    list_all is_numeric xs ≡ true
all_plain [] s once plain = refl
all_plain (x ∷ xs) s once plain =
    let stays : get (apply xs (applied x s)) x.cell ≡ x.value =
    apply_keeps cell_order xs (applied x s) x.cell once.0 ∙ get-put cell_order x s x.cell
    ∙ ap (λ (b : Bool). cond b x.value (get s x.cell)) (is_itself cell_order x.cell) in
    let first : is_numeric x ≡ true = plain_at x.cell x.value (apply xs (applied x s)) stays plain in
    ap (λ (b : Bool). b && list_all is_numeric xs) first ∙ all_plain xs (applied x s) once.1 plain

plain_element : (b : Bool) (v : Option Value) → IsElement b v → is_plain v ≡ true
plain_element true v element = ap is_plain element.1
plain_element false v element = ap is_plain element

-- changes, each of another cell, that lead to a well-formed workbook set each element to a number, or clear it
pub all_numeric : (xs : Changes) (s : Cells) → AllOnce cell_cmp xs → IsWellFormed (apply xs s) → list_all is_numeric xs ≡ true
all_numeric xs s once formed =
    all_plain xs s once (λ a i. plain_element (is_index_of_array (apply xs s) (array_at (apply xs s) a) i) (get (apply xs s) (Element a i)) (formed.elements a i))
