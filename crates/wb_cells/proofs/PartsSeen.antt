-- What a look at the stored cells shows, by the parts that they are kept in.
use Rattle.std.proofs.Common.{◌≡◌, Bool, true, false, cond, ◌&&◌, List, [], ◌∷◌, Option, Some, None, IsSome, unwrap_or, refl, sym, ap, subst, ◌∙◌}
use Rattle.std.specs.BTreeMap.{BTreeMap}
use Rattle.std.specs.FinMap.{get, keys, entries, from_entries, retain_keys, get-retain_keys, get-from_entries}
use Rattle.std.specs.Cmp.{eq_by_cmp_equiv}
use Rattle.std.specs.Cmp.Lexicographic.{nat_list_cmp_total}
use Rattle.std.specs.List.{AllByRecursion, filter_map}
use Rattle.std.specs.List.Sorted.{IsStrictlySortedBy}
use Rattle.std.specs.Map.{keys_of}
use Rattle.std.specs.Ordering.{eq_by_cmp, is_eq}
use Rattle.std.specs.declared.cmp.Ordering.{Ordering}
use Rattle.std.specs.declared.cmp.Ordering.TheVariants.{Less, Equal, Greater}
use Rattle.selective_undo.proofs.Changes.{same_states}
use Rattle.selective_undo.proofs.Evaluation.{entries-retain_keys}
use Rattle.wb_cells.specs.declared.cells.cell.Cell.{Cell}
use Rattle.wb_cells.specs.declared.cells.cell.Cell.TheVariants.{Object, Shape, In, Member, Mapping, Use, Implicit, Element}
use Rattle.wb_cells.specs.declared.cells.pattern.Pattern.{Pattern}
use Rattle.wb_cells.specs.declared.cells.pattern.Pattern.TheVariants.{Objects, One, Members, Uses, Elements}
use Rattle.wb_cells.specs.declared.cells.value.Value.{Value}
use Rattle.wb_cells.specs.declared.values.index.Index.{Index}
use Rattle.wb_cells.specs.Cells.{Name, Cells, cell_cmp, cell_order, cell_cmp-IsAntisymmetric, index_cmp, is_same_name, matches, state_of, map_state}
use Rattle.wb_cells.specs.Families.{HasName, AreNamed}
use Rattle.wb_cells.specs.Readers.{seen, member_in, members, object_of, objects, user_of, users}
use Rattle.wb_cells.specs.Stored.{is_low, is_high, value_in, indices_in, has_index, member_cells, stored_of, IsStored}
use Rattle.wb_cells.specs.WellFormed.{has, present_if}
use Rattle.wb_cells.proofs.Leading.{same_taken}
use Rattle.wb_cells.proofs.Order.{entries_ascending}
use Rattle.wb_cells.proofs.Parts.{value-low, value-member, value-high, value-set, none_of_set, same_name, by_kind}
use Rattle.wb_cells.proofs.Ascending.{set_ascends, none_there}
use Rattle.wb_cells.proofs.Shown.{get-state_of, get-map_state, find-lookup}
use Rattle.wb_cells.proofs.Users.{keys-filter}

-- ---- cells in their order that are those which the pattern names

pub seen_is : (s : Cells) (p : Pattern) (es : List (Cell × Value)) → IsStrictlySortedBy cell_cmp (keys_of es) →
    ((c : Cell) → value_in es c ≡ cond (matches p c) (get s c) None) → seen s p ≡ es
seen_is s p es sorted is =
    ap entries (same_states cell_order (retain_keys s (matches p)) (from_entries es) (λ c.
    get-retain_keys s (matches p) c (λ x tie. ap (matches p) (sym (cell_order.strict c x tie)))
    ∙ sym (get-from_entries cell_order.total es c ∙ find-lookup es c ∙ is c)))
    ∙ entries_ascending es sorted

-- two workbooks that agree on what the pattern names show the same
pub seen_same : (s t : Cells) (p : Pattern) → ((c : Cell) → matches p c ≡ true → get s c ≡ get t c) → seen s p ≡ seen t p
seen_same s t p same = ap entries (same_states cell_order (retain_keys s (matches p)) (retain_keys t (matches p)) (λ c.
    get-retain_keys s (matches p) c (λ x tie. ap (matches p) (sym (cell_order.strict c x tie)))
    ∙ by c (matches p c) refl
    ∙ sym (get-retain_keys t (matches p) c (λ x tie. ap (matches p) (sym (cell_order.strict c x tie))))))
  where
    by : (c : Cell) (b : Bool) → matches p c ≡ b → cond (matches p c) (get s c) None ≡ cond (matches p c) (get t c) None
    by c true e = ap (λ o. cond (matches p c) o None) (same c e)
    by c false e = ap (λ b. cond b (get s c) None) e ∙ sym (ap (λ b. cond b (get t c) None) e)

-- ---- one cell

pub one_cell : Cell → Option Value → List (Cell × Value)
one_cell c None = []
one_cell c (Some v) = (c, v) ∷ []

equal_cells : (o : Ordering) → is_eq o ≡ true → o ≡ Equal
equal_cells Less h = cc
equal_cells Equal h = refl
equal_cells Greater h = cc

pub seen_one : (s : Cells) (c : Cell) (o : Option Value) → get s c ≡ o → seen s (One c) ≡ one_cell c o
unfolding one_cell IsStrictlySortedBy
seen_one s c None none = seen_is s (One c) [] tt (λ q. sym (by q (eq_by_cmp cell_cmp c q) refl))
  where
    by : (q : Cell) (b : Bool) → eq_by_cmp cell_cmp c q ≡ b → cond b (get s q) None ≡ None
    by q true e = ap (get s) (sym (cell_cmp-IsAntisymmetric c q (equal_cells (cell_cmp c q) e))) ∙ none
    by q false e = refl
seen_one s c (Some v) here = seen_is s (One c) ((c, v) ∷ []) (tt, tt) (λ q.
    ap (λ b. cond b (Some v) None) ((eq_by_cmp_equiv cell_order.total).symm q c) ∙ by q (eq_by_cmp cell_cmp c q) refl)
  where
    by : (q : Cell) (b : Bool) → eq_by_cmp cell_cmp c q ≡ b → cond b (Some v) None ≡ cond b (get s q) None
    by q true e = sym here ∙ ap (get s) (cell_cmp-IsAntisymmetric c q (equal_cells (cell_cmp c q) e))
    by q false e = refl

pub one_of_some : (c : Cell) (v : Value) → one_cell c (Some v) ≡ (c, v) ∷ []
unfolding one_cell
one_of_some c v = refl

pub one_of_none : (c : Cell) → one_cell c None ≡ []
unfolding one_cell
one_of_none c = refl

-- ---- readers of names, by what a look shows

names_seen : (f : Cell → Option Name) (p : Pattern) → ((c : Cell) → matches p c ≡ false → f c ≡ None) → (s : Cells) →
    filter_map f (keys s) ≡ filter_map f (keys_of (seen s p))
names_seen f p untold s =
    sym (same_taken f (matches p) (keys_of (entries s)) (all (keys_of (entries s))))
    ∙ ap (filter_map f) (sym (keys-filter (matches p) (entries s)))
    ∙ ap (λ (es : List (Cell × Value)). filter_map f (keys_of es)) (sym (entries-retain_keys cell_order s (matches p)))
  where
    all : (xs : List Cell) → AllByRecursion (λ x. matches p x ≡ false → f x ≡ None) xs
    all [] = tt
    all (x ∷ xs) = (untold x, all xs)

no_object : (c : Cell) → matches Objects c ≡ false → object_of c ≡ None
no_object (Object n) h = cc
no_object (Shape n) h = refl
no_object (In n i) h = refl
no_object (Member n i) h = refl
no_object (Mapping n) h = refl
no_object (Use d n) h = refl
no_object (Implicit n) h = refl
no_object (Element n i) h = refl

no_user : (d : Name) (c : Cell) → matches (Uses d) c ≡ false → user_of d c ≡ None
no_user d (Object n) h = refl
no_user d (Shape n) h = refl
no_user d (In n i) h = refl
no_user d (Member n i) h = refl
no_user d (Mapping n) h = refl
no_user d (Use e n) h = ap (λ b. cond b (Some n) None) h
no_user d (Implicit n) h = refl
no_user d (Element n i) h = refl

objects_same : (s t : Cells) → seen s Objects ≡ seen t Objects → objects s ≡ objects t
objects_same s t same =
    names_seen object_of Objects no_object s ∙ ap (λ (es : List (Cell × Value)). filter_map object_of (keys_of es)) same
    ∙ sym (names_seen object_of Objects no_object t)

users_same : (s t : Cells) (d : Name) → seen s (Uses d) ≡ seen t (Uses d) → users s d ≡ users t d
users_same s t d same =
    names_seen (user_of d) (Uses d) (no_user d) s ∙ ap (λ (es : List (Cell × Value)). filter_map (user_of d) (keys_of es)) same
    ∙ sym (names_seen (user_of d) (Uses d) (no_user d) t)

-- ---- the indices of cells that are members

pub told_members : (d : Name) (is : List Index) → filter_map member_in (member_cells (d, is)) ≡ is
told_members d [] = refl
told_members d (i ∷ is) = ap (λ js. i ∷ js) (told_members d is)

module _ (low : BTreeMap Cell Value) (sets : BTreeMap Name (List Index)) (high : BTreeMap Cell Value) (kept : IsStored low sets high) where
  pub seen_low : (p : Pattern) → ((c : Cell) → matches p c ≡ true → is_low c ≡ true) → seen (state_of (stored_of low sets high)) p ≡ seen (map_state low) p
  seen_low p lies = seen_same (state_of (stored_of low sets high)) (map_state low) p
      (λ c h. get-state_of (stored_of low sets high) c ∙ value-low low sets high kept c (lies c h) ∙ sym (get-map_state low c))

  pub seen_high : (p : Pattern) → ((c : Cell) → matches p c ≡ true → is_high c ≡ true) → seen (state_of (stored_of low sets high)) p ≡ seen (map_state high) p
  seen_high p lies = seen_same (state_of (stored_of low sets high)) (map_state high) p
      (λ c h. get-state_of (stored_of low sets high) c ∙ value-high low sets high kept c (lies c h) ∙ sym (get-map_state high c))

  objects_low : (c : Cell) → matches Objects c ≡ true → is_low c ≡ true
  objects_low (Object n) h = refl
  objects_low (Shape n) h = refl
  objects_low (In n i) h = refl
  objects_low (Member n i) h = cc
  objects_low (Mapping n) h = cc
  objects_low (Use d n) h = cc
  objects_low (Implicit n) h = cc
  objects_low (Element n i) h = cc

  uses_high : (d : Name) (c : Cell) → matches (Uses d) c ≡ true → is_high c ≡ true
  uses_high d (Object n) h = cc
  uses_high d (Shape n) h = cc
  uses_high d (In n i) h = cc
  uses_high d (Member n i) h = cc
  uses_high d (Mapping n) h = refl
  uses_high d (Use e n) h = refl
  uses_high d (Implicit n) h = refl
  uses_high d (Element n i) h = refl

  elements_high : (a : Name) (c : Cell) → matches (Elements a) c ≡ true → is_high c ≡ true
  elements_high a (Object n) h = cc
  elements_high a (Shape n) h = cc
  elements_high a (In n i) h = cc
  elements_high a (Member n i) h = cc
  elements_high a (Mapping n) h = refl
  elements_high a (Use e n) h = refl
  elements_high a (Implicit n) h = refl
  elements_high a (Element n i) h = refl

  pub seen_objects : seen (state_of (stored_of low sets high)) Objects ≡ seen (map_state low) Objects
  seen_objects = seen_low Objects objects_low

  pub seen_uses : (d : Name) → seen (state_of (stored_of low sets high)) (Uses d) ≡ seen (map_state high) (Uses d)
  seen_uses d = seen_high (Uses d) (uses_high d)

  pub seen_elements : (a : Name) → seen (state_of (stored_of low sets high)) (Elements a) ≡ seen (map_state high) (Elements a)
  seen_elements a = seen_high (Elements a) (elements_high a)

  pub seen_at_objects : (p : Pattern) → p ≡ Objects → seen (state_of (stored_of low sets high)) p ≡ seen (map_state low) p
  seen_at_objects p e = subst (λ (q : Pattern). seen (state_of (stored_of low sets high)) q ≡ seen (map_state low) q) (sym e) seen_objects

  pub seen_at_uses : (p : Pattern) (d : Name) → p ≡ Uses d → seen (state_of (stored_of low sets high)) p ≡ seen (map_state high) p
  seen_at_uses p d e = subst (λ (q : Pattern). seen (state_of (stored_of low sets high)) q ≡ seen (map_state high) q) (sym e) (seen_uses d)

  pub seen_at_elements : (p : Pattern) (a : Name) → p ≡ Elements a → seen (state_of (stored_of low sets high)) p ≡ seen (map_state high) p
  seen_at_elements p a e = subst (λ (q : Pattern). seen (state_of (stored_of low sets high)) q ≡ seen (map_state high) q) (sym e) (seen_elements a)

  pub objects_are : objects (state_of (stored_of low sets high)) ≡ objects (map_state low)
  objects_are = objects_same _ _ seen_objects

  pub users_are : (d : Name) → users (state_of (stored_of low sets high)) d ≡ users (map_state high) d
  users_are d = users_same _ _ d (seen_uses d)

  -- the names of the parts are names
  pub low_named : AreNamed (state_of (stored_of low sets high)) → AreNamed (map_state low)
  low_named named = λ c there. by c (is_low c) refl there
    where
      by : (c : Cell) (b : Bool) → is_low c ≡ b → IsSome (get (map_state low) c) → HasName c
      by c true e there = named c (subst (λ (o : Option Value). IsSome o)
          (sym (get-state_of (stored_of low sets high) c ∙ value-low low sets high kept c e ∙ sym (get-map_state low c))) there)
      by c false e there = none_there (get (map_state low) c) (get-map_state low c ∙ kept.low_only c e) there

  pub high_named : AreNamed (state_of (stored_of low sets high)) → AreNamed (map_state high)
  high_named named = λ c there. by c (is_high c) refl there
    where
      by : (c : Cell) (b : Bool) → is_high c ≡ b → IsSome (get (map_state high) c) → HasName c
      by c true e there = named c (subst (λ (o : Option Value). IsSome o)
          (sym (get-state_of (stored_of low sets high) c ∙ value-high low sets high kept c e ∙ sym (get-map_state high c))) there)
      by c false e there = none_there (get (map_state high) c) (get-map_state high c ∙ kept.high_only c e) there

  -- ---- members

  members_here : (d e : Name) (j : Index) (o : Option (List Index)) → indices_in sets.entries d ≡ o →
      value_in (member_cells (d, unwrap_or o [])) (Member e j) ≡ cond (is_same_name d e) (get (state_of (stored_of low sets high)) (Member e j)) None
  members_here d e j o found =
      value-set e d (unwrap_or o []) j
      ∙ ap (λ b. present_if (b && has (unwrap_or o []) j)) ((eq_by_cmp_equiv nat_list_cmp_total).symm e d)
      ∙ by (is_same_name d e) refl
    where
      has_so : (p : Option (List Index)) → has (unwrap_or p []) j ≡ has_index p j
      has_so None = refl
      has_so (Some is) = refl

      by : (b : Bool) → is_same_name d e ≡ b → present_if (b && has (unwrap_or o []) j) ≡ cond b (get (state_of (stored_of low sets high)) (Member e j)) None
      by true h =
          let name : d ≡ e = same_name d e h in
          ap present_if (has_so o ∙ ap (λ p. has_index p j) (sym found) ∙ ap (λ (n : Name). has_index (indices_in sets.entries n) j) name)
          ∙ sym (get-state_of (stored_of low sets high) (Member e j) ∙ value-member low sets high kept e j)
      by false h = refl

  no_member : (d : Name) (is : List Index) (c : Cell) → (is_low c ≡ true) → value_in (member_cells (d, is)) c ≡ cond (matches (Members d) c)
      (get (state_of (stored_of low sets high)) c) None
  no_member d is (Object n) h = none_of_set d is (Object n) refl
  no_member d is (Shape n) h = none_of_set d is (Shape n) refl
  no_member d is (In n i) h = none_of_set d is (In n i) refl
  no_member d is (Member e i) h = cc
  no_member d is (Mapping n) h = cc
  no_member d is (Use e n) h = cc
  no_member d is (Implicit n) h = cc
  no_member d is (Element n i) h = cc

  no_member_high : (d : Name) (is : List Index) (c : Cell) → (is_high c ≡ true) → value_in (member_cells (d, is)) c ≡ cond (matches (Members d) c)
      (get (state_of (stored_of low sets high)) c) None
  no_member_high d is (Object n) h = cc
  no_member_high d is (Shape n) h = cc
  no_member_high d is (In n i) h = cc
  no_member_high d is (Member e i) h = cc
  no_member_high d is (Mapping n) h = none_of_set d is (Mapping n) refl
  no_member_high d is (Use e n) h = none_of_set d is (Use e n) refl
  no_member_high d is (Implicit n) h = none_of_set d is (Implicit n) refl
  no_member_high d is (Element n i) h = none_of_set d is (Element n i) refl

  ascends : (d : Name) (o : Option (List Index)) → indices_in sets.entries d ≡ o → IsStrictlySortedBy index_cmp (unwrap_or o [])
  unfolding IsStrictlySortedBy
  ascends d None found = tt
  ascends d (Some is) found = kept.sets_ascend d is found

  pub seen_members : (d : Name) → seen (state_of (stored_of low sets high)) (Members d) ≡ member_cells (d, unwrap_or (indices_in sets.entries d) [])
  seen_members d =
      let is : List Index = unwrap_or (indices_in sets.entries d) [] in
      seen_is (state_of (stored_of low sets high)) (Members d) (member_cells (d, is)) (set_ascends d is (ascends d (indices_in sets.entries d) refl))
      (by_kind (λ c. value_in (member_cells (d, is)) c ≡ cond (matches (Members d) c) (get (state_of (stored_of low sets high)) c) None)
      (no_member d is) (λ e j. members_here d e j (indices_in sets.entries d) refl) (no_member_high d is))

  pub members_are : (d : Name) → members (state_of (stored_of low sets high)) d ≡ unwrap_or (indices_in sets.entries d) []
  members_are d = ap (filter_map member_in) (seen_members d) ∙ told_members d (unwrap_or (indices_in sets.entries d) [])
