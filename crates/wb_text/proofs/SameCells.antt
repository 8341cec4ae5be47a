-- Two well-formed workbooks with the same lines are the same.
use Rattle.std.proofs.Common.{◌≡◌, ℕ, ℤ, Bool, true, false, ◌||◌, List, [], ◌∷◌, Option, Some, None, is_some, option_map, unwrap_or, refl, sym, ap, ◌∙◌, subst}
use Rattle.std.specs.Cmp.{Equal-is, eq_by_cmp_equiv}
use Rattle.std.specs.FinMap.{get}
use Rattle.std.specs.List.{cons_option, filter_map}
use Rattle.selective_undo.proofs.Changes.{or_right, same_states}
use Rattle.wb_cells.specs.contracts.values.index.IndexOrd.TheImpl.Laws as index_laws
use Rattle.wb_cells.specs.declared.cells.cell.Cell.{Cell}
use Rattle.wb_cells.specs.declared.cells.cell.Cell.TheVariants.{Object, Shape, In, Member, Mapping, Use, Implicit, Element}
use Rattle.wb_cells.specs.declared.cells.kind.DomainKind.{DomainKind}
use Rattle.wb_cells.specs.declared.cells.kind.DomainKind.TheVariants.{Rectangular, Sparse, Associative}
use Rattle.wb_cells.specs.declared.cells.kind.KeyType.{KeyType}
use Rattle.wb_cells.specs.declared.cells.kind.Kind.{Kind}
use Rattle.wb_cells.specs.declared.cells.kind.Kind.TheVariants as kinds
use Rattle.wb_cells.specs.declared.cells.value.Value.{Value}
use Rattle.wb_cells.specs.declared.cells.value.Value.TheVariants as values
use Rattle.wb_cells.specs.declared.values.index.Index.{Index}
use Rattle.wb_cells.specs.Cells.{Name, Cells, cell_order, index_cmp-IsAntisymmetric, is_same_index}
use Rattle.wb_cells.specs.Kinds.{kind_of}
use Rattle.wb_cells.specs.Shapes.{Range, indices}
use Rattle.wb_cells.specs.WellFormed.{IsWellFormed, IsElement, IsMember, IsNumber, MayHave, array_at, array_in, domain_at, has, index_cell, inside_of}
use Rattle.wb_cells.specs.WellFormed.{is_index_of_array, present_if, ranges_in}
use Rattle.wb_text.specs.Said.{sparse, associative, array, said}
use Rattle.wb_text.specs.Lines.{element_at, elements_at, indices_in, members, number_in}
use Rattle.wb_text.proofs.Readable.{Each}
use Rattle.wb_text.proofs.ReadIndices.{some_same}
use Rattle.wb_text.proofs.SameDomains.{none_some, both_said, domains_same}
use Rattle.wb_text.proofs.SameObjects.{objects_same, shapes_same, insides_same, mappings_same, uses_same}
use Rattle.wb_text.proofs.SameMembers.{array_object, arrays_said, implicits_same, member_listed}

-- ---- lists

true_false : {X : Type 0} → true ≡ false → X
true_false e = cc

-- what holds of each index that is in a list, of all of them
each_among : (P : Index → Type 0) (is : List Index) → ((i : Index) → has is i ≡ true → P i) → Each P is
each_among P [] fact = tt
each_among P (j ∷ is) fact = (
  fact j (ap (λ b. b || has is j) ((eq_by_cmp_equiv index_laws.total-law).refl j)),
  each_among P is (λ i h. fact i (or_right (is_same_index i j) (has is i) h)),
)

of_each : (P : Index → Type 0) (is : List Index) (i : Index) → Each P is → has is i ≡ true → P i
of_each P [] i h e = true_false (sym e)
of_each P (j ∷ is) i h e =
    elim (is_same_index i j) as (λ b. is_same_index i j ≡ b → b || has is i ≡ true → P i) [
      | true ↦ λ tie. λ f. subst P (sym (index_cmp-IsAntisymmetric i j ((Equal-is _).0 tie))) h.0
      | false ↦ λ tie. λ f. of_each P is i h.1 f
    ] refl e

heads_same : {X : Type 0} (x y : X) (xs ys : List X) → x ∷ xs ≡ y ∷ ys → x ≡ y
heads_same x y xs ys e = cc

tails_same : {X : Type 0} (x y : X) (xs ys : List X) → x ∷ xs ≡ y ∷ ys → xs ≡ ys
tails_same x y xs ys e = cc

one_more : {X Y : Type 0} (f g : X → Option Y) (xs : List X) (o p : Option Y) → is_some o ≡ true → is_some p ≡ true →
    cons_option o (filter_map f xs) ≡ cons_option p (filter_map g xs) → (o ≡ p) × (filter_map f xs ≡ filter_map g xs)
one_more f g xs None p h i e = true_false (sym h)
one_more f g xs (Some x) None h i e = true_false (sym i)
one_more f g xs (Some x) (Some y) h i e = (ap (λ z. Some z) (heads_same x y _ _ e), tails_same x y _ _ e)

-- two functions that give something of each item, and the same lists of all, give the same of each
each_same : {X Y : Type 0} (f g : X → Option Y) (xs : List X) → Each (λ x. is_some (f x) ≡ true) xs → Each (λ x. is_some (g x) ≡ true) xs →
    filter_map f xs ≡ filter_map g xs → Each (λ x. f x ≡ g x) xs
each_same f g [] h i e = tt
each_same f g (x ∷ xs) h i e =
    let one = one_more f g xs (f x) (g x) h.0 i.0 e in
    (one.0, each_same f g xs h.1 i.1 one.1)

-- ---- the indices of a domain

sparse_same : (d e p o : Name) (is js : List Index) → sparse d p is ≡ sparse e o js → is ≡ js
sparse_same d e p o is js f = cc

associative_same : (d e : Name) (t u : KeyType) (is js : List Index) → associative d t is ≡ associative e u js → is ≡ js
associative_same d e t u is js f = cc

module _ (s t : Cells) (v : IsWellFormed s) (w : IsWellFormed t) (same : said s ≡ said t) where
  there : (d : Name) (kind : DomainKind) → domain_at s d ≡ Some kind → domain_at t d ≡ Some kind
  there d kind is = sym (domains_same s t v w same d) ∙ is

  sparse_members : (d parent : Name) (rank : ℕ) → domain_at s d ≡ Some (Sparse parent rank) → members s d ≡ members t d
  sparse_members d parent rank is =
      sparse_same d d parent parent _ _ (both_said s t same d (Sparse parent rank) (Sparse parent rank) is (there d _ is))

  associative_members : (d : Name) (type : KeyType) → domain_at s d ≡ Some (Associative type) → members s d ≡ members t d
  associative_members d type is =
      associative_same d d type type _ _ (both_said s t same d (Associative type) (Associative type) is (there d _ is))

  -- the same indices, by the kind that an array knows of its domain
  indices_same : (d : Name) (kind : Kind) → option_map kind_of (domain_at s d) ≡ Some kind → indices_in s d kind ≡ indices_in t d kind
  indices_same d kind = of (domain_at s d) refl
    where
      of : (o : Option DomainKind) → domain_at s d ≡ o → option_map kind_of o ≡ Some kind → indices_in s d kind ≡ indices_in t d kind
      of None e f = none_some kind f
      of (Some (Rectangular rank)) e f =
          subst (λ k. indices_in s d k ≡ indices_in t d k) (some_same _ _ f)
          (ap (λ x. unwrap_or (option_map indices (ranges_in x)) []) (shapes_same s t v w same d))
      of (Some (Sparse parent rank)) e f = subst (λ k. indices_in s d k ≡ indices_in t d k) (some_same _ _ f) (sparse_members d parent rank e)
      of (Some (Associative type)) e f = subst (λ k. indices_in s d k ≡ indices_in t d k) (some_same _ _ f) (associative_members d type e)

-- ---- members

module _ (s t : Cells) (i : Index) where
  none_there : (k : Option DomainKind) (o p : Option Value) → IsMember s k i o → IsMember t k i p → (MayHave s k i → ⊥) → (MayHave t k i → ⊥) → o ≡ p
  none_there k None None h j m n = refl
  none_there k None (Some y) h j m n = absurd (n j.1)
  none_there k (Some x) p h j m n = absurd (m h.1)

  present_same : (k : Option DomainKind) (o p : Option Value) → IsMember s k i o → IsMember t k i p → is_some o ≡ is_some p → o ≡ p
  present_same k None None h j e = refl
  present_same k None (Some y) h j e = true_false (sym e)
  present_same k (Some x) None h j e = true_false e
  present_same k (Some x) (Some y) h j e = ap (λ z. Some z) (h.0 ∙ sym j.0)

listed_same : (s t : Cells) (d : Name) (i : Index) → members s d ≡ members t d → is_some (get s (Member d i)) ≡ is_some (get t (Member d i))
listed_same s t d i e = member_listed s d i ∙ ap (λ is. has is i) e ∙ sym (member_listed t d i)

pub members_same : (s t : Cells) → IsWellFormed s → IsWellFormed t → said s ≡ said t → (d : Name) (i : Index) → get s (Member d i) ≡ get t (Member d i)
members_same s t v w same d i =
    of (domain_at s d) refl (v.members d i) (subst (λ k. IsMember t k i (get t (Member d i))) (sym (domains_same s t v w same d)) (w.members d i))
  where
    of : (k : Option DomainKind) → domain_at s d ≡ k → IsMember s k i (get s (Member d i)) → IsMember t k i (get t (Member d i)) →
        get s (Member d i) ≡ get t (Member d i)
    of None e h j = none_there s t i None _ _ h j (λ m. m) (λ m. m)
    of (Some (Rectangular rank)) e h j = none_there s t i (Some (Rectangular rank)) _ _ h j (λ m. m) (λ m. m)
    of (Some (Sparse parent rank)) e h j = present_same s t i (Some (Sparse parent rank)) _ _ h j
        (listed_same s t d i (sparse_members s t v w same d parent rank e))
    of (Some (Associative type)) e h j = present_same s t i (Some (Associative type)) _ _ h j (listed_same s t d i (associative_members s t v w same d type e))

-- ---- elements

inside_listed : (o : Option (List Range)) (i : Index) → is_some (inside_of o i) ≡ has (unwrap_or (option_map indices o) []) i
inside_listed None i = refl
inside_listed (Some rs) i = of (has (indices rs) i)
  where
    of : (b : Bool) → is_some (present_if b) ≡ b
    of true = refl
    of false = refl

-- the cells of a domain tell which indices are in its list
index_listed : (s : Cells) (d : Name) (kind : Kind) (i : Index) → IsWellFormed s → is_some (get s (index_cell kind d i)) ≡ has (indices_in s d kind) i
index_listed s d (kinds.Rectangular rank) i w = ap is_some (w.insides d i) ∙ inside_listed (ranges_in (get s (Shape d))) i
index_listed s d (kinds.Sparse rank) i w = member_listed s d i
index_listed s d (kinds.Associative type) i w = member_listed s d i

pub element_by : (s : Cells) (a d : Name) (kind : Kind) (i : Index) (b : Bool) → IsWellFormed s → array_at s a ≡ Some (d, kind) →
    has (indices_in s d kind) i ≡ b → IsElement b (get s (Element a i))
element_by s a d kind i b w e h =
    subst (λ x. IsElement x (get s (Element a i))) (ap (λ o. is_index_of_array s o i) e ∙ index_listed s d kind i w ∙ h) (w.elements a i)

number_there : (o : Option Value) → IsNumber o → is_some (number_in o) ≡ true
number_there o h = ap (λ x. is_some (number_in x)) h.1

pub all_there : (s : Cells) (a d : Name) (kind : Kind) → IsWellFormed s → array_at s a ≡ Some (d, kind) →
    Each (λ i. is_some (element_at s a i) ≡ true) (indices_in s d kind)
all_there s a d kind w e =
    each_among (λ i. is_some (element_at s a i) ≡ true) (indices_in s d kind) (λ i h. number_there (get s (Element a i)) (element_by s a d kind i true w e h))

number_same : (o p : Option Value) → IsNumber o → IsNumber p → number_in o ≡ number_in p → o ≡ p
number_same o p h j e = h.1 ∙ ap (λ z. Some (values.Number z)) (some_same h.0 j.0 (sym (ap number_in h.1) ∙ e ∙ ap number_in j.1)) ∙ sym j.1

numbers_same : (a b d e : Name) (xs ys : List ℤ) (z w : Option ℤ) → array a d xs z ≡ array b e ys w → xs ≡ ys
numbers_same a b d e xs ys z w f = cc

module _ (s t : Cells) (v : IsWellFormed s) (w : IsWellFormed t) (same : said s ≡ said t) (a : Name) where
  arrays_same : array_at s a ≡ array_at t a
  arrays_same = ap (λ o. array_in o) (objects_same s t v w same a)

  -- over a domain, the same number at each index
  each_element : (d : Name) (kind : Kind) → array_at s a ≡ Some (d, kind) → Each (λ i. element_at s a i ≡ element_at t a i) (indices_in s d kind)
  each_element d kind e =
      let is : indices_in s d kind ≡ indices_in t d kind = indices_same s t v w same d kind (v.objects a _ (array_object (get s (Object a)) d kind e)) in
      each_same (element_at s a) (element_at t a) (indices_in s d kind) (all_there s a d kind v e)
      (subst (Each (λ i. is_some (element_at t a i) ≡ true)) (sym is) (all_there t a d kind w (sym arrays_same ∙ e)))
      (numbers_same _ _ _ _ _ _ _ _ (arrays_said s t v w same a d kind e) ∙ ap (elements_at t a) (sym is))

  over : (d : Name) (kind : Kind) (i : Index) (b : Bool) → array_at s a ≡ Some (d, kind) → has (indices_in s d kind) i ≡ b →
      get s (Element a i) ≡ get t (Element a i)
  over d kind i b e h =
      let is : indices_in s d kind ≡ indices_in t d kind = indices_same s t v w same d kind (v.objects a _ (array_object (get s (Object a)) d kind e)) in
      of b h (element_by s a d kind i b v e h) (element_by t a d kind i b w (sym arrays_same ∙ e) (ap (λ js. has js i) (sym is) ∙ h))
    where
      of : (b : Bool) → has (indices_in s d kind) i ≡ b → IsElement b (get s (Element a i)) → IsElement b (get t (Element a i)) →
          get s (Element a i) ≡ get t (Element a i)
      of true h j k = number_same _ _ j k (of_each (λ i. element_at s a i ≡ element_at t a i) (indices_in s d kind) i (each_element d kind e) h)
      of false h j k = j ∙ sym k

  pub elements_same : (i : Index) → get s (Element a i) ≡ get t (Element a i)
  elements_same i = of (array_at s a) refl
    where
      of : (o : Option (Name × Kind)) → array_at s a ≡ o → get s (Element a i) ≡ get t (Element a i)
      of None e =
          let here : get s (Element a i) ≡ None = subst (λ o. IsElement (is_index_of_array s o i) (get s (Element a i))) e (v.elements a i) in
          let there : get t (Element a i) ≡ None = subst (λ o. IsElement (is_index_of_array t o i) (get t (Element a i))) (sym arrays_same ∙ e)
          (w.elements a i) in
          here ∙ sym there
      of (Some (d, kind)) e = over d kind i (has (indices_in s d kind) i) e refl

-- ---- all cells

cells_same : (s t : Cells) → IsWellFormed s → IsWellFormed t → said s ≡ said t → (c : Cell) → get s c ≡ get t c
cells_same s t v w same (Object n) = objects_same s t v w same n
cells_same s t v w same (Shape d) = shapes_same s t v w same d
cells_same s t v w same (In d i) = insides_same s t v w same d i
cells_same s t v w same (Member d i) = members_same s t v w same d i
cells_same s t v w same (Mapping d) = mappings_same s t v w same d
cells_same s t v w same (Use d n) = uses_same s t v w same d n
cells_same s t v w same (Implicit a) = implicits_same s t v w same a
cells_same s t v w same (Element a i) = elements_same s t v w same a i

-- two well-formed workbooks with the same lines are the same
pub same_workbook : (s t : Cells) → IsWellFormed s → IsWellFormed t → said s ≡ said t → s ≡ t
same_workbook s t v w same = same_states cell_order s t (cells_same s t v w same)
