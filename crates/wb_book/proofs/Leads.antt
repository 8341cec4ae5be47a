-- The elements of an array after changes.
use Rattle.std.proofs.Common.{◌≡◌, ℤ, Bool, true, false, cond, ◌⊎◌, inl, inr, List, [], ◌∷◌, ◌++◌, Option}
use Rattle.std.proofs.Common.{Some, None, is_some, IsSome, refl, sym, ap, subst, ◌∙◌}
use Rattle.std.specs.declared.cmp.Ordering.{Ordering}
use Rattle.std.specs.declared.cmp.Ordering.TheVariants.{Less, Equal, Greater}
use Rattle.std.specs.BTreeMap.{is_at}
use Rattle.std.specs.Map.{set_value}
use Rattle.std.proofs.lemmas.Map.{lookup-set_value}
use Rattle.std.specs.Cmp.Lexicographic.{slice_cmp, nat_list_cmp_total}
use Rattle.std.specs.Cmp.{eq_by_cmp_equiv, tied_itself}
use Rattle.std.specs.FinMap.{get}
use Rattle.std.specs.Option.{option_map}
use Rattle.std.specs.Ordering.{is_eq, nat_cmp, ordering_then, eq_by_cmp}
use Rattle.selective_undo.specs.declared.Change.{Change}
use Rattle.selective_undo.specs.Changes.{apply}
use Rattle.selective_undo.proofs.Changes.{get-put}
use Rattle.wb_cells.specs.declared.cells.cell.Cell.{Cell}
use Rattle.wb_cells.specs.declared.cells.cell.Cell.TheVariants.{Object, Shape, In, Member, Mapping, Use, Implicit, Element}
use Rattle.wb_cells.specs.declared.cells.value.Value.{Value}
use Rattle.wb_cells.specs.declared.cells.value.Value.TheVariants.{Number}
use Rattle.wb_cells.specs.declared.values.index.Index.{Index}
use Rattle.wb_cells.specs.Cells.{Name, Cells, Changes, cell_cmp, cell_order, index_cmp, is_same_name, is_same_index}
use Rattle.wb_elements.specs.Piecewise.Changed.{changed_at}
use Rattle.wb_elements.proofs.Piecewise.Changed.{changed-last}
use Rattle.wb_book.specs.Groups.{Group, LeadTo, group_in, changes_of, changes_in}
use Rattle.wb_book.specs.Kept.{Pieced, array_in}
use Rattle.wb_book.proofs.Same.{apply-last}
use Rattle.wb_book.proofs.Written.{one_name}

-- a change of no element of the array
pub apart_leads : (delta : Changes) (a : Name) (xs : List (Index × Option ℤ)) (x : Change Cell Value) →
    ((i : Index) → eq_by_cmp cell_cmp (Element a i) x.cell ≡ false) → LeadTo delta a xs → LeadTo (delta ++ x ∷ []) a xs
apart_leads delta a xs x apart lead = λ s o i is.
    lead s o i is
    ∙ ap (λ (t : Bool). cond t x.value (get (apply delta s) (Element a i))) (sym (apart i))
    ∙ sym (get-put cell_order x (apply delta s) (Element a i))
    ∙ ap (λ (t : Cells). get t (Element a i)) (sym (apply-last delta x s))

same_cells_at : (a : Name) (i j : Index) → eq_by_cmp cell_cmp (Element a i) (Element a j) ≡ is_same_index i j
same_cells_at a i j = ap (λ (o : Ordering). is_eq (ordering_then o (index_cmp i j))) (tied_itself nat_list_cmp_total a)

mapped_cond : (t : Bool) (n o : Option ℤ) → option_map Number (cond t n o) ≡ cond t (option_map Number n) (option_map Number o)
mapped_cond true n o = refl
mapped_cond false n o = refl

-- a change of one of its elements
pub element_leads : (delta : Changes) (a : Name) (xs : List (Index × Option ℤ)) (x : Change Cell Value) (j : Index) (n : Option ℤ) → x.cell ≡ Element a j →
    x.value ≡ option_map Number n → LeadTo delta a xs → LeadTo (delta ++ x ∷ []) a (xs ++ (j, n) ∷ [])
element_leads delta a xs x j n cell value lead = λ s o i is.
    ap (option_map Number) (changed-last xs (j, n) o i)
    ∙ mapped_cond (is_same_index i j) n (changed_at xs o i)
    ∙ ap (cond (is_same_index i j) (option_map Number n)) (lead s o i is)
    ∙ ap (λ (t : Bool). cond t (option_map Number n) (get (apply delta s) (Element a i))) (sym (same_cells_at a i j))
    ∙ ap (λ (c : Cell). cond (eq_by_cmp cell_cmp (Element a i) c) (option_map Number n) (get (apply delta s) (Element a i))) (sym cell)
    ∙ ap (λ (v : Option Value). cond (eq_by_cmp cell_cmp (Element a i) x.cell) v (get (apply delta s) (Element a i))) (sym value)
    ∙ sym (get-put cell_order x (apply delta s) (Element a i))
    ∙ ap (λ (t : Cells). get t (Element a i)) (sym (apply-last delta x s))

apart_first : (o r : Ordering) → is_eq o ≡ false → is_eq (ordering_then o r) ≡ false
apart_first Less r e = refl
apart_first Equal r e = cc
apart_first Greater r e = refl

pub other_array : (a b : Name) (i j : Index) → is_same_name b a ≡ false → eq_by_cmp cell_cmp (Element a i) (Element b j) ≡ false
other_array a b i j e = apart_first (slice_cmp nat_cmp a b) (index_cmp i j) ((eq_by_cmp_equiv nat_list_cmp_total).symm a b ∙ e)

pub no_element_cell : (x : Cell) → ((b : Name) (j : Index) → x ≡ Element b j → ⊥) → (a : Name) (i : Index) → eq_by_cmp cell_cmp (Element a i) x ≡ false
no_element_cell (Object n) none a i = refl
no_element_cell (Shape n) none a i = refl
no_element_cell (In n j) none a i = refl
no_element_cell (Member n j) none a i = refl
no_element_cell (Mapping n) none a i = refl
no_element_cell (Use n m) none a i = refl
no_element_cell (Implicit n) none a i = refl
no_element_cell (Element n j) none a i = absurd (none n j refl)

-- ---- the changes of each array

pub same_leads : (delta : Changes) (gs hs : List (Name × Group)) → ((b : Name) → changes_in hs b ≡ changes_in gs b) →
    ((b : Name) → LeadTo delta b (changes_in gs b)) → (b : Name) → LeadTo delta b (changes_in hs b)
same_leads delta gs hs same lead b = subst (λ (ys : Group). LeadTo delta b ys) (sym (same b)) (lead b)

pub object_leads : (delta : Changes) (gs : List (Name × Group)) (x : Change Cell Value) →
    ((b : Name) (i : Index) → eq_by_cmp cell_cmp (Element b i) x.cell ≡ false) →
    ((b : Name) → LeadTo delta b (changes_in gs b)) → (b : Name) → LeadTo (delta ++ x ∷ []) b (changes_in gs b)
object_leads delta gs x apart lead b = apart_leads delta b (changes_in gs b) x (apart b) (lead b)

pub added_leads : (delta : Changes) (gs hs : List (Name × Group)) (x : Change Cell Value) (n : Name) (j : Index) (o : Option ℤ) → x.cell ≡ Element n j →
    x.value ≡ option_map Number o →
    ((b : Name) → changes_in hs b ≡ cond (is_same_name n b) (changes_in gs b ++ (j, o) ∷ []) (changes_in gs b)) →
    ((b : Name) → LeadTo delta b (changes_in gs b)) → (b : Name) → LeadTo (delta ++ x ∷ []) b (changes_in hs b)
added_leads delta gs hs x n j o cell value made lead b =
    subst (λ (ys : Group). LeadTo (delta ++ x ∷ []) b ys) (sym (made b)) (by (is_same_name n b) refl)
  where
    by : (t : Bool) → is_same_name n b ≡ t → LeadTo (delta ++ x ∷ []) b (cond t (changes_in gs b ++ (j, o) ∷ []) (changes_in gs b))
    by true e = element_leads delta b (changes_in gs b) x j o (cell ∙ ap (λ (m : Name). Element m j) (one_name n b e)) value (lead b)
    by false e = apart_leads delta b (changes_in gs b) x (λ i. ap (eq_by_cmp cell_cmp (Element b i)) cell ∙ other_array b n i j e) (lead b)

-- ---- an array is named, or one more of its changes is known

module _ (gs hs : List (Name × Group)) (n : Name) (w : Group) (put : (b : Name) → group_in hs b ≡ cond (is_same_name n b) (Some w) (group_in gs b)) where
  pub group_stays : (b : Name) → IsSome (group_in gs b) → IsSome (group_in hs b)
  group_stays b there = subst (λ (o : Option Group). IsSome o) (sym (put b)) (by (is_same_name n b))
    where
      by : (t : Bool) → IsSome (cond t (Some w) (group_in gs b))
      by true = refl
      by false = there

  pub group_named : group_in gs n ≡ None → w ≡ [] → (b : Name) → changes_in hs b ≡ changes_in gs b
  group_named absent empty b = ap changes_of (put b) ∙ by (is_same_name n b) refl
    where
      by : (t : Bool) → is_same_name n b ≡ t → changes_of (cond t (Some w) (group_in gs b)) ≡ changes_in gs b
      by false e = refl
      by true e = empty ∙ sym (ap changes_of (ap (group_in gs) (sym (one_name n b e)) ∙ absent))

  pub group_added : (p xs : Group) → group_in gs n ≡ Some p → w ≡ p ++ xs → (b : Name) →
      changes_in hs b ≡ cond (is_same_name n b) (changes_in gs b ++ xs) (changes_in gs b)
  group_added p xs found is b = ap changes_of (put b) ∙ by (is_same_name n b) refl
    where
      by : (t : Bool) → is_same_name n b ≡ t → changes_of (cond t (Some w) (group_in gs b)) ≡ cond t (changes_in gs b ++ xs) (changes_in gs b)
      by false e = refl
      by true e = is ∙ ap (λ (o : Option Group). changes_of o ++ xs) (sym (ap (group_in gs) (sym (one_name n b e)) ∙ found))

pub group_set : (gs : List (Name × Group)) (n : Name) (w p : Group) → group_in gs n ≡ Some p → (b : Name) →
    group_in (set_value (is_at (slice_cmp nat_cmp n)) gs w) b ≡ cond (is_same_name n b) (Some w) (group_in gs b)
group_set gs n w p found b =
    lookup-set_value (eq_by_cmp_equiv nat_list_cmp_total) (is_same_name n) (λ x y e. ap (λ (m : Name). is_same_name m y) (one_name n x e)) b w gs
    (ap is_some found)

pub none_named : (o : Option Group) → is_some o ≡ false → o ≡ None
none_named None e = refl
none_named (Some xs) e = cc

pub name_one : (n b : Name) (p : Pieced) (rest : List (Name × Pieced)) (gs hs : List (Name × Group)) → (IsSome (group_in gs b) → IsSome (group_in hs b)) →
    IsSome (group_in hs n) →
    IsSome (group_in gs b) ⊎ IsSome (array_in ((n, p) ∷ rest) b) → IsSome (group_in hs b) ⊎ IsSome (array_in rest b)
name_one n b p rest gs hs stays there (inl h) = inl (stays h)
name_one n b p rest gs hs stays there (inr h) = by (is_same_name b n) refl h
  where
    by : (t : Bool) → is_same_name b n ≡ t → IsSome (cond t (Some p) (array_in rest b)) → IsSome (group_in hs b) ⊎ IsSome (array_in rest b)
    by false e h = inr h
    by true e h = inl (subst (λ (m : Name). IsSome (group_in hs m)) (sym (one_name b n e)) there)
