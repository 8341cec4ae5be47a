-- What the stored cells answer, by the parts that they are kept in.
use Rattle.std.proofs.Common.{◌≡◌, Bool, true, false, cond, not, ◌&&◌, ◌||◌, List, [], ◌∷◌, ◌++◌, Option, Some, None, Result, Ok, Err, OnOk, OnErr, refl, sym, ap, subst, ◌∙◌}
use Rattle.std.specs.BTreeMap.{BTreeMap, IsOrdered, is_at}
use Rattle.std.specs.Cmp.Lexicographic.{slice_cmp}
use Rattle.std.specs.FinMap.{get, insert, remove, get-insert, get-remove}
use Rattle.std.specs.List.{AllByRecursion, flat_map}
use Rattle.std.specs.List.Sorted.{IsStrictlySortedBy}
use Rattle.std.specs.Map.{keys_of}
use Rattle.std.specs.Ordering.{eq_by_cmp, is_eq, nat_cmp, ordering_then}
use Rattle.std.specs.declared.cmp.Ordering.{Ordering}
use Rattle.std.specs.declared.cmp.Ordering.TheVariants.{Less, Equal, Greater}
use Rattle.selective_undo.proofs.Changes.{same_states}
use Rattle.wb_cells.specs.declared.cells.cell.Cell.{Cell}
use Rattle.wb_cells.specs.declared.cells.cell.Cell.TheVariants.{Object, Shape, In, Member, Mapping, Use, Implicit, Element}
use Rattle.wb_cells.specs.declared.cells.value.Value.{Value}
use Rattle.wb_cells.specs.declared.cells.value.Value.TheVariants.{Present}
use Rattle.wb_cells.specs.declared.values.index.Index.{Index}
use Rattle.wb_cells.specs.Cells.{Name, Stored, cell_cmp, cell_order, cell_cmp-IsAntisymmetric, index_cmp, is_same_name, is_same_index, same_names, state_of}
use Rattle.wb_cells.specs.Stored.{is_low, is_high, member_of, value_in, Only, indices_in, has_index, is_member, AscendEach, member_cells, whole, stored_of, IsStored, Fits}
use Rattle.wb_cells.specs.WellFormed.{has, present_if}
use Rattle.wb_cells.proofs.Shown.{get-state_of}

-- ---- what two lists answer, one before the other

pub value-skip : (xs ys : List (Cell × Value)) (c : Cell) → value_in xs c ≡ None → value_in (xs ++ ys) c ≡ value_in ys c
value-skip [] ys c none = refl
value-skip (e ∷ xs) ys c none = by (is_at (cell_cmp c) e.0) none (value-skip xs ys c)
  where
    by : (b : Bool) → cond b (Some e.1) (value_in xs c) ≡ None → (value_in xs c ≡ None → value_in (xs ++ ys) c ≡ value_in ys c) →
        cond b (Some e.1) (value_in (xs ++ ys) c) ≡ value_in ys c
    by true h rest = cc
    by false h rest = rest h

pub value-front : (xs ys : List (Cell × Value)) (c : Cell) → value_in ys c ≡ None → value_in (xs ++ ys) c ≡ value_in xs c
value-front [] ys c none = none
value-front (e ∷ xs) ys c none = ap (cond (is_at (cell_cmp c) e.0) (Some e.1)) (value-front xs ys c none)

-- ---- what the members answer

abbrev pub is_middle : Cell → Bool
is_middle (Member d i) = true
is_middle _ = false

pub not_middle : (c : Cell) → is_low c ≡ true → is_middle c ≡ false
not_middle (Object n) h = refl
not_middle (Shape n) h = refl
not_middle (In n i) h = refl
not_middle (Member d i) h = cc
not_middle (Mapping n) h = refl
not_middle (Use d n) h = refl
not_middle (Implicit n) h = refl
not_middle (Element n i) h = refl

pub high_not_middle : (c : Cell) → is_high c ≡ true → is_middle c ≡ false
high_not_middle (Object n) h = refl
high_not_middle (Shape n) h = refl
high_not_middle (In n i) h = refl
high_not_middle (Member d i) h = cc
high_not_middle (Mapping n) h = refl
high_not_middle (Use d n) h = refl
high_not_middle (Implicit n) h = refl
high_not_middle (Element n i) h = refl

pub other : (d : Name) (j : Index) (c : Cell) → is_middle c ≡ false → is_eq (cell_cmp c (Member d j)) ≡ false
other d j (Object n) h = refl
other d j (Shape n) h = refl
other d j (In n i) h = refl
other d j (Member e i) h = cc
other d j (Mapping n) h = refl
other d j (Use e n) h = refl
other d j (Implicit n) h = refl
other d j (Element n i) h = refl

pub none_of_set : (d : Name) (is : List Index) (c : Cell) → is_middle c ≡ false → value_in (member_cells (d, is)) c ≡ None
none_of_set d [] c h = refl
none_of_set d (i ∷ is) c h = ap (λ b. cond b (Some Present) (value_in (member_cells (d, is)) c)) (other d i c h) ∙ none_of_set d is c h

none_of_sets : (ms : List (Name × List Index)) (c : Cell) → is_middle c ≡ false → value_in (flat_map member_cells ms) c ≡ None
none_of_sets [] c h = refl
none_of_sets (m ∷ ms) c h =
    value-skip (member_cells m) (flat_map member_cells ms) c (none_of_set m.0 m.1 c h) ∙ none_of_sets ms c h

met : (o r : Ordering) (b : Bool) (v : Option Value) → v ≡ present_if (is_eq o && b) →
    cond (is_eq (ordering_then o r)) (Some Present) v ≡ present_if (is_eq o && (is_eq r || b))
met Less r b v h = h
met Greater r b v h = h
met Equal Less b v h = h
met Equal Equal b v h = refl
met Equal Greater b v h = h

none_met : (b : Bool) → None ≡ present_if (b && false)
none_met true = refl
none_met false = refl

pub value-set : (d e : Name) (is : List Index) (i : Index) → value_in (member_cells (e, is)) (Member d i) ≡ present_if (is_same_name d e && has is i)
value-set d e [] i = none_met (is_same_name d e)
value-set d e (j ∷ is) i = met (slice_cmp nat_cmp d e) (index_cmp i j) (has is i) _ (value-set d e is i)

-- behind a name there is none that is the same
equal_names : (o : Ordering) → is_eq o ≡ true → o ≡ Equal
equal_names Less h = cc
equal_names Equal h = refl
equal_names Greater h = cc

pub same_name : (d e : Name) → is_same_name d e ≡ true → d ≡ e
same_name d e h = same_names d e (equal_names (slice_cmp nat_cmp d e) h)

none_above : (d : Name) (ms : List (Name × List Index)) → AllByRecursion (λ n. slice_cmp nat_cmp d n ≡ Less) (keys_of ms) → indices_in ms d ≡ None
none_above d [] all = refl
none_above d (m ∷ ms) all = ap (λ o. cond (is_eq o) (Some m.1) (indices_in ms d)) all.0 ∙ none_above d ms all.1

pub none_behind : (d e : Name) (ms : List (Name × List Index)) → AllByRecursion (λ n. slice_cmp nat_cmp e n ≡ Less) (keys_of ms) → is_same_name d e ≡ true →
    indices_in ms d ≡ None
none_behind d e ms all same = subst (λ (n : Name). indices_in ms n ≡ None) (sym (same_name d e same)) (none_above e ms all)

pub value-sets : (ms : List (Name × List Index)) → IsStrictlySortedBy (slice_cmp nat_cmp) (keys_of ms) → (d : Name) (i : Index) →
    value_in (flat_map member_cells ms) (Member d i) ≡ present_if (is_member ms d i)
unfolding IsStrictlySortedBy
value-sets [] s d i = refl
value-sets (m ∷ ms) s d i =
    let rest : value_in (flat_map member_cells ms) (Member d i) ≡ present_if (is_member ms d i) = value-sets ms s.1 d i in
    let front = value-set d m.0 m.1 i in
    elim (is_same_name d m.0) as (λ b. is_same_name d m.0 ≡ b →
    value_in (member_cells m ++ flat_map member_cells ms) (Member d i) ≡ present_if (has_index (cond b (Some m.1) (indices_in ms d)) i)) [
      | true ↦ λ e.
          let none : indices_in ms d ≡ None = none_behind d m.0 ms s.0 e in
          value-front (member_cells m) (flat_map member_cells ms) (Member d i) (rest ∙ ap (λ o. present_if (has_index o i)) none)
          ∙ front ∙ ap (λ b. present_if (b && has m.1 i)) e
      | false ↦ λ e.
          value-skip (member_cells m) (flat_map member_cells ms) (Member d i) (front ∙ ap (λ b. present_if (b && has m.1 i)) e) ∙ rest
    ] refl

-- ---- what all of them answer

low_not_high : (c : Cell) → is_low c ≡ true → is_high c ≡ false
low_not_high (Object n) h = refl
low_not_high (Shape n) h = refl
low_not_high (In n i) h = refl
low_not_high (Member d i) h = refl
low_not_high (Mapping n) h = cc
low_not_high (Use d n) h = cc
low_not_high (Implicit n) h = cc
low_not_high (Element n i) h = cc

high_not_low : (c : Cell) → is_high c ≡ true → is_low c ≡ false
high_not_low (Object n) h = cc
high_not_low (Shape n) h = cc
high_not_low (In n i) h = cc
high_not_low (Member d i) h = refl
high_not_low (Mapping n) h = refl
high_not_low (Use d n) h = refl
high_not_low (Implicit n) h = refl
high_not_low (Element n i) h = refl

module _ (low : BTreeMap Cell Value) (sets : BTreeMap Name (List Index)) (high : BTreeMap Cell Value) (kept : IsStored low sets high) where
  pub value-low : (c : Cell) → is_low c ≡ true → value_in (whole low.entries sets.entries high.entries) c ≡ value_in low.entries c
  value-low c h =
      value-front low.entries (flat_map member_cells sets.entries ++ high.entries) c
      (value-skip (flat_map member_cells sets.entries) high.entries c (none_of_sets sets.entries c (not_middle c h)) ∙ kept.high_only c (low_not_high c h))

  pub value-member : (d : Name) (i : Index) → value_in (whole low.entries sets.entries high.entries) (Member d i) ≡ present_if (is_member sets.entries d i)
  value-member d i =
      value-skip low.entries (flat_map member_cells sets.entries ++ high.entries) (Member d i) (kept.low_only (Member d i) refl)
      ∙ value-front (flat_map member_cells sets.entries) high.entries (Member d i) (kept.high_only (Member d i) refl)
      ∙ value-sets sets.entries kept.names_ascend d i

  pub value-high : (c : Cell) → is_high c ≡ true → value_in (whole low.entries sets.entries high.entries) c ≡ value_in high.entries c
  value-high c h =
      value-skip low.entries (flat_map member_cells sets.entries ++ high.entries) c (kept.low_only c (high_not_low c h))
      ∙ value-skip (flat_map member_cells sets.entries) high.entries c (none_of_sets sets.entries c (high_not_middle c h))

same_pair : (x y : Name × Index) → Some x ≡ Some y → x ≡ y
same_pair x y h = cc

-- which of the three kinds a cell is of
pub told_member : (c : Cell) (d : Name) (i : Index) → member_of c ≡ Some (d, i) → c ≡ Member d i
told_member (Object n) d i h = cc
told_member (Shape n) d i h = cc
told_member (In n j) d i h = cc
told_member (Member e j) d i h = ap (λ (x : Name × Index). Member x.0 x.1) (same_pair (e, j) (d, i) h)
told_member (Mapping n) d i h = cc
told_member (Use e n) d i h = cc
told_member (Implicit n) d i h = cc
told_member (Element n j) d i h = cc

pub told_high : (c : Cell) → member_of c ≡ None → is_low c ≡ false → is_high c ≡ true
told_high (Object n) h k = cc
told_high (Shape n) h k = cc
told_high (In n j) h k = cc
told_high (Member e j) h k = cc
told_high (Mapping n) h k = refl
told_high (Use e n) h k = refl
told_high (Implicit n) h k = refl
told_high (Element n j) h k = refl

-- what holds of each kind holds of each cell
pub by_kind : (P : Cell → Type 0) → ((c : Cell) → is_low c ≡ true → P c) → ((d : Name) (i : Index) → P (Member d i)) →
    ((c : Cell) → is_high c ≡ true → P c) → (c : Cell) → P c
by_kind P low middle high (Object n) = low (Object n) refl
by_kind P low middle high (Shape n) = low (Shape n) refl
by_kind P low middle high (In n i) = low (In n i) refl
by_kind P low middle high (Member d i) = middle d i
by_kind P low middle high (Mapping n) = high (Mapping n) refl
by_kind P low middle high (Use d n) = high (Use d n) refl
by_kind P low middle high (Implicit n) = high (Implicit n) refl
by_kind P low middle high (Element n i) = high (Element n i) refl

-- ---- one cell is set, or cleared

equal_cells : (o : Ordering) → is_eq o ≡ true → o ≡ Equal
equal_cells Less h = cc
equal_cells Equal h = refl
equal_cells Greater h = cc

-- cells of different kinds are not the same
pub apart : (p : Cell → Bool) (q c : Cell) → p q ≡ false → p c ≡ true → eq_by_cmp cell_cmp q c ≡ false
apart p q c out here = by (eq_by_cmp cell_cmp q c) refl
  where
    by : (b : Bool) → eq_by_cmp cell_cmp q c ≡ b → b ≡ false
    by true e =
        let is : q ≡ c = cell_cmp-IsAntisymmetric q c (equal_cells (cell_cmp q c) e) in
        let both : false ≡ true = sym out ∙ ap p is ∙ here in
        cc
    by false e = refl

-- es have v at the cell k, and else what those before have
abbrev pub IsSet : List (Cell × Value) → List (Cell × Value) → Cell → Option Value → Type 0
IsSet before es k v = (c : Cell) → value_in es c ≡ cond (eq_by_cmp cell_cmp c k) v (value_in before c)

pub state-set : (m n : Stored) (k : Cell) (v : Value) → IsSet m.entries n.entries k (Some v) → state_of n ≡ insert (state_of m) k v
state-set m n k v is =
    same_states cell_order _ _ λ c.
    get-state_of n c ∙ is c ∙ sym (get-insert cell_order.total (state_of m) k v c ∙ ap (cond (eq_by_cmp cell_cmp c k) (Some v)) (get-state_of m c))

pub state-cleared : (m n : Stored) (k : Cell) → IsSet m.entries n.entries k None → state_of n ≡ remove (state_of m) k
state-cleared m n k is =
    same_states cell_order _ _ λ c.
    get-state_of n c ∙ is c ∙ sym (get-remove cell_order.total (state_of m) k c ∙ ap (cond (eq_by_cmp cell_cmp c k) None) (get-state_of m c))

-- a part stays one of its kind
pub only-set : (p : Cell → Bool) (before es : List (Cell × Value)) (k : Cell) (v : Option Value) → Only p before → p k ≡ true → IsSet before es k v → Only p es
only-set p before es k v only here is = λ c out. is c ∙ ap (λ b. cond b v (value_in before c)) (apart p c k out here) ∙ only c out

module _ (low : BTreeMap Cell Value) (sets : BTreeMap Name (List Index)) (high : BTreeMap Cell Value) (kept : IsStored low sets high) where
  pub low-set : (low' : BTreeMap Cell Value) (k : Cell) (v : Option Value) → IsStored low' sets high → is_low k ≡ true → IsSet low.entries low'.entries k v →
      IsSet (whole low.entries sets.entries high.entries) (whole low'.entries sets.entries high.entries) k v
  low-set low' k v kept' here is = by_kind (λ c. value_in (whole low'.entries sets.entries high.entries) c ≡
      cond (eq_by_cmp cell_cmp c k) v (value_in (whole low.entries sets.entries high.entries) c))
      (λ c h. value-low low' sets high kept' c h ∙ is c ∙ ap (cond (eq_by_cmp cell_cmp c k) v) (sym (value-low low sets high kept c h)))
      (λ d i. value-member low' sets high kept' d i ∙ sym (ap (λ b. cond b v (value_in (whole low.entries sets.entries high.entries) (Member d i)))
      (apart is_low (Member d i) k refl here) ∙ value-member low sets high kept d i))
      (λ c h. value-high low' sets high kept' c h ∙ sym (ap (λ b. cond b v (value_in (whole low.entries sets.entries high.entries) c))
      (apart is_low c k (high_not_low c h) here) ∙ value-high low sets high kept c h))

  pub high-set : (high' : BTreeMap Cell Value) (k : Cell) (v : Option Value) → IsStored low sets high' → is_high k ≡ true → IsSet high.entries high'.entries k v →
      IsSet (whole low.entries sets.entries high.entries) (whole low.entries sets.entries high'.entries) k v
  high-set high' k v kept' here is = by_kind (λ c. value_in (whole low.entries sets.entries high'.entries) c ≡
      cond (eq_by_cmp cell_cmp c k) v (value_in (whole low.entries sets.entries high.entries) c))
      (λ c h. value-low low sets high' kept' c h ∙ sym (ap (λ b. cond b v (value_in (whole low.entries sets.entries high.entries) c))
      (apart is_high c k (low_not_high c h) here) ∙ value-low low sets high kept c h))
      (λ d i. value-member low sets high' kept' d i ∙ sym (ap (λ b. cond b v (value_in (whole low.entries sets.entries high.entries) (Member d i)))
      (apart is_high (Member d i) k refl here) ∙ value-member low sets high kept d i))
      (λ c h. value-high low sets high' kept' c h ∙ is c ∙ ap (cond (eq_by_cmp cell_cmp c k) v) (sym (value-high low sets high kept c h)))

  both_equal : (o r : Ordering) → is_eq (ordering_then o r) ≡ is_eq o && is_eq r
  both_equal Less r = refl
  both_equal Equal r = refl
  both_equal Greater r = refl

  or_there : (b there : Bool) → present_if (b || there) ≡ cond b (Some Present) (present_if there)
  or_there true there = refl
  or_there false there = refl

  and_there : (b there : Bool) → present_if (not b && there) ≡ cond b None (present_if there)
  and_there true there = refl
  and_there false there = refl

  pub member-set : (sets' : BTreeMap Name (List Index)) (d : Name) (i : Index) → IsStored low sets' high →
      ((e : Name) (j : Index) → is_member sets'.entries e j ≡ (is_same_name e d && is_same_index j i) || is_member sets.entries e j) →
      IsSet (whole low.entries sets.entries high.entries) (whole low.entries sets'.entries high.entries) (Member d i) (Some Present)
  member-set sets' d i kept' is = by_kind (λ c. value_in (whole low.entries sets'.entries high.entries) c ≡
      cond (eq_by_cmp cell_cmp c (Member d i)) (Some Present) (value_in (whole low.entries sets.entries high.entries) c))
      (λ c h. value-low low sets' high kept' c h ∙ sym (ap (λ b. cond b (Some Present) (value_in (whole low.entries sets.entries high.entries) c))
      (other d i c (not_middle c h)) ∙ value-low low sets high kept c h))
      (λ e j. value-member low sets' high kept' e j ∙ ap present_if (is e j)
      ∙ or_there (is_same_name e d && is_same_index j i) (is_member sets.entries e j)
      ∙ sym (ap (λ b. cond b (Some Present) (value_in (whole low.entries sets.entries high.entries) (Member e j)))
      (both_equal (slice_cmp nat_cmp e d) (index_cmp j i))
      ∙ ap (cond (is_same_name e d && is_same_index j i) (Some Present)) (value-member low sets high kept e j)))
      (λ c h. value-high low sets' high kept' c h ∙ sym (ap (λ b. cond b (Some Present) (value_in (whole low.entries sets.entries high.entries) c))
      (other d i c (high_not_middle c h)) ∙ value-high low sets high kept c h))

  pub member-cleared : (sets' : BTreeMap Name (List Index)) (d : Name) (i : Index) → IsStored low sets' high →
      ((e : Name) (j : Index) → is_member sets'.entries e j ≡ not (is_same_name e d && is_same_index j i) && is_member sets.entries e j) →
      IsSet (whole low.entries sets.entries high.entries) (whole low.entries sets'.entries high.entries) (Member d i) None
  member-cleared sets' d i kept' is = by_kind (λ c. value_in (whole low.entries sets'.entries high.entries) c ≡
      cond (eq_by_cmp cell_cmp c (Member d i)) None (value_in (whole low.entries sets.entries high.entries) c))
      (λ c h. value-low low sets' high kept' c h ∙ sym (ap (λ b. cond b None (value_in (whole low.entries sets.entries high.entries) c))
      (other d i c (not_middle c h)) ∙ value-low low sets high kept c h))
      (λ e j. value-member low sets' high kept' e j ∙ ap present_if (is e j)
      ∙ and_there (is_same_name e d && is_same_index j i) (is_member sets.entries e j)
      ∙ sym (ap (λ b. cond b None (value_in (whole low.entries sets.entries high.entries) (Member e j)))
      (both_equal (slice_cmp nat_cmp e d) (index_cmp j i))
      ∙ ap (cond (is_same_name e d && is_same_index j i) None) (value-member low sets high kept e j)))
      (λ c h. value-high low sets' high kept' c h ∙ sym (ap (λ b. cond b None (value_in (whole low.entries sets.entries high.entries) c))
      (other d i c (high_not_middle c h)) ∙ value-high low sets high kept c h))

-- ---- the parts stay what they are

module _ (low : BTreeMap Cell Value) (sets : BTreeMap Name (List Index)) (high : BTreeMap Cell Value) (kept : IsStored low sets high) where
  pub low-kept : (low' : BTreeMap Cell Value) (k : Cell) (v : Option Value) → is_low k ≡ true → IsSet low.entries low'.entries k v → IsOrdered cell_cmp low' →
      IsStored low' sets high
  low-kept low' k v here is ordered = record {
    low_only = only-set is_low low.entries low'.entries k v kept.low_only here is;
    high_only = kept.high_only;
    low_ascends = ordered;
    high_ascends = kept.high_ascends;
    names_ascend = kept.names_ascend;
    sets_ascend = kept.sets_ascend;
  }

  pub high-kept : (high' : BTreeMap Cell Value) (k : Cell) (v : Option Value) → is_high k ≡ true → IsSet high.entries high'.entries k v →
      IsOrdered cell_cmp high' → IsStored low sets high'
  high-kept high' k v here is ordered = record {
    low_only = kept.low_only;
    high_only = only-set is_high high.entries high'.entries k v kept.high_only here is;
    low_ascends = kept.low_ascends;
    high_ascends = ordered;
    names_ascend = kept.names_ascend;
    sets_ascend = kept.sets_ascend;
  }

  pub sets-kept : (sets' : BTreeMap Name (List Index)) → IsOrdered (slice_cmp nat_cmp) sets' → AscendEach sets'.entries → IsStored low sets' high
  sets-kept sets' ordered each = record {
    low_only = kept.low_only;
    high_only = kept.high_only;
    low_ascends = kept.low_ascends;
    high_ascends = kept.high_ascends;
    names_ascend = ordered;
    sets_ascend = each;
  }

  -- also where no memory was left
  pub low-either : {E : Type 0} (r : Result (Unit {0}) E) (low' : BTreeMap Cell Value) (k : Cell) (v : Option Value) → is_low k ≡ true →
      OnOk r (IsSet low.entries low'.entries k v) → OnErr r (low'.entries ≡ low.entries) → IsOrdered cell_cmp low' → IsStored low' sets high
  low-either (Ok u) low' k v here is same ordered = low-kept low' k v here is ordered
  low-either (Err e) low' k v here is same ordered = record {
    low_only = λ c out. ap (λ (es : List (Cell × Value)). value_in es c) same ∙ kept.low_only c out;
    high_only = kept.high_only;
    low_ascends = ordered;
    high_ascends = kept.high_ascends;
    names_ascend = kept.names_ascend;
    sets_ascend = kept.sets_ascend;
  }

  pub high-either : {E : Type 0} (r : Result (Unit {0}) E) (high' : BTreeMap Cell Value) (k : Cell) (v : Option Value) → is_high k ≡ true →
      OnOk r (IsSet high.entries high'.entries k v) → OnErr r (high'.entries ≡ high.entries) → IsOrdered cell_cmp high' → IsStored low sets high'
  high-either (Ok u) high' k v here is same ordered = high-kept high' k v here is ordered
  high-either (Err e) high' k v here is same ordered = record {
    low_only = kept.low_only;
    high_only = λ c out. ap (λ (es : List (Cell × Value)). value_in es c) same ∙ kept.high_only c out;
    low_ascends = kept.low_ascends;
    high_ascends = ordered;
    names_ascend = kept.names_ascend;
    sets_ascend = kept.sets_ascend;
  }

  -- ---- what is set, as states

  pub low-state : {E : Type 0} (r : Result (Unit {0}) E) (low' : BTreeMap Cell Value) (k : Cell) (v : Value) → is_low k ≡ true →
      OnOk r (IsSet low.entries low'.entries k (Some v)) → IsOrdered cell_cmp low' →
      OnOk r (state_of (stored_of low' sets high) ≡ insert (state_of (stored_of low sets high)) k v)
  low-state (Ok u) low' k v here is ordered =
      state-set (stored_of low sets high) (stored_of low' sets high) k v
      (low-set low sets high kept low' k (Some v) (low-kept low' k (Some v) here is ordered) here is)
  low-state (Err e) low' k v here is ordered = tt

  pub high-state : {E : Type 0} (r : Result (Unit {0}) E) (high' : BTreeMap Cell Value) (k : Cell) (v : Value) → is_high k ≡ true →
      OnOk r (IsSet high.entries high'.entries k (Some v)) → IsOrdered cell_cmp high' →
      OnOk r (state_of (stored_of low sets high') ≡ insert (state_of (stored_of low sets high)) k v)
  high-state (Ok u) high' k v here is ordered =
      state-set (stored_of low sets high) (stored_of low sets high') k v
      (high-set low sets high kept high' k (Some v) (high-kept high' k (Some v) here is ordered) here is)
  high-state (Err e) high' k v here is ordered = tt

  pub member-state : {E : Type 0} (r : Result (Unit {0}) E) (sets' : BTreeMap Name (List Index)) (k : Cell) (d : Name) (i : Index) (v : Value) → k ≡ Member d i →
      IsOrdered (slice_cmp nat_cmp) sets' → AscendEach sets'.entries →
      OnOk r ((e : Name) (j : Index) → is_member sets'.entries e j ≡ (is_same_name e d && is_same_index j i) || is_member sets.entries e j) →
      OnOk r (v ≡ Present) → OnOk r (state_of (stored_of low sets' high) ≡ insert (state_of (stored_of low sets high)) k v)
  member-state (Ok u) sets' k d i v cell ordered each is present =
      state-set (stored_of low sets high) (stored_of low sets' high) (Member d i) Present
      (member-set low sets high kept sets' d i (sets-kept sets' ordered each) is)
      ∙ ap (λ (c : Cell). insert (state_of (stored_of low sets high)) c Present) (sym cell)
      ∙ ap (insert (state_of (stored_of low sets high)) k) (sym present)
  member-state (Err e) sets' k d i v cell ordered each is present = tt

  -- what is absent
  pub low-absent : {E : Type 0} (r : Result (Unit {0}) E) (k : Cell) (v : Value) → is_low k ≡ true → OnErr r (value_in low.entries k ≡ None) →
      OnErr r (Fits k v → get (state_of (stored_of low sets high)) k ≡ None)
  low-absent (Ok u) k v here none = tt
  low-absent (Err e) k v here none = λ fits. get-state_of (stored_of low sets high) k ∙ value-low low sets high kept k here ∙ none

  pub high-absent : {E : Type 0} (r : Result (Unit {0}) E) (k : Cell) (v : Value) → is_high k ≡ true → OnErr r (value_in high.entries k ≡ None) →
      OnErr r (Fits k v → get (state_of (stored_of low sets high)) k ≡ None)
  high-absent (Ok u) k v here none = tt
  high-absent (Err e) k v here none = λ fits. get-state_of (stored_of low sets high) k ∙ value-high low sets high kept k here ∙ none

  pub member-absent : {E : Type 0} (r : Result (Unit {0}) E) (k : Cell) (d : Name) (i : Index) (v : Value) → k ≡ Member d i →
      OnErr r (v ≡ Present → is_member sets.entries d i ≡ false) → OnErr r (Fits k v → get (state_of (stored_of low sets high)) k ≡ None)
  member-absent (Ok u) k d i v cell none = tt
  member-absent (Err e) k d i v cell none = λ fits.
      let present : v ≡ Present = subst (λ (c : Cell). Fits c v) cell fits in
      ap (get (state_of (stored_of low sets high))) cell ∙ get-state_of (stored_of low sets high) (Member d i)
      ∙ value-member low sets high kept d i ∙ ap present_if (none present)

-- ---- nothing is kept

pub nothing-kept : (low : BTreeMap Cell Value) (sets : BTreeMap Name (List Index)) (high : BTreeMap Cell Value) → low.entries ≡ [] → sets.entries ≡ [] →
    high.entries ≡ [] → IsOrdered cell_cmp low → IsOrdered (slice_cmp nat_cmp) sets → IsOrdered cell_cmp high → IsStored low sets high
nothing-kept low sets high no_low no_sets no_high lows names highs = record {
  low_only = λ c out. ap (λ (es : List (Cell × Value)). value_in es c) no_low;
  high_only = λ c out. ap (λ (es : List (Cell × Value)). value_in es c) no_high;
  low_ascends = lows;
  high_ascends = highs;
  names_ascend = names;
  sets_ascend = λ d is found.
      let never : None ≡ Some is = sym (ap (λ (ms : List (Name × List Index)). indices_in ms d) no_sets) ∙ found in
      cc;
}
