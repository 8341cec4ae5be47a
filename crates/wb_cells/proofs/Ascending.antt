-- The stored cells ascend, part after part.
use Rattle.std.proofs.Common.{◌≡◌, Bool, true, false, cond, List, [], ◌∷◌, ◌++◌, Option, Some, None, IsSome, refl, sym, ap, subst, ◌∙◌}
use Rattle.std.specs.BTreeMap.{BTreeMap, IsOrdered, ContainsKey, keys}
use Rattle.std.specs.Cmp.{tied_itself}
use Rattle.std.specs.Cmp.Lexicographic.{slice_cmp, nat_list_cmp_total}
use Rattle.std.specs.FinMap.{entries}
use Rattle.std.specs.List.{AllByRecursion, flat_map}
use Rattle.std.specs.List.Sorted.{IsStrictlySortedBy}
use Rattle.std.specs.Map.{keys_of}
use Rattle.std.specs.Ordering.{is_eq, nat_cmp, ordering_then}
use Rattle.std.specs.declared.cmp.Ordering.TheVariants.{Less}
use Rattle.std.proofs.lemmas.List.Elements.{recursion_from_All}
use Rattle.std.proofs.lemmas.Map.Views.{All-keys_found}
use Rattle.wb_cells.specs.declared.cells.cell.Cell.{Cell}
use Rattle.wb_cells.specs.declared.cells.cell.Cell.TheVariants.{Object, Shape, In, Member, Mapping, Use, Implicit, Element}
use Rattle.wb_cells.specs.declared.cells.value.Value.{Value}
use Rattle.wb_cells.specs.declared.values.index.Index.{Index}
use Rattle.wb_cells.specs.Cells.{Name, cell_cmp, cell_order, index_cmp, is_same_name, state_of}
use Rattle.wb_cells.specs.Stored.{is_low, is_high, value_in, Only, indices_in, AscendEach, member_cells, stored_of, IsStored}
use Rattle.wb_cells.proofs.Order.{entries-state_of}
use Rattle.wb_cells.proofs.Parts.{none_behind}

-- ---- one list before another

Below : (x : Cell) → List Cell → Type 0
Below x ys = AllByRecursion (λ y. cell_cmp x y ≡ Less) ys

below-append : (x : Cell) (xs ys : List Cell) → Below x xs → Below x ys → Below x (xs ++ ys)
unfolding Below
below-append x [] ys h k = k
below-append x (z ∷ xs) ys h k = (h.0, below-append x xs ys h.1 k)

sorted-append : (xs ys : List Cell) → IsStrictlySortedBy cell_cmp xs → IsStrictlySortedBy cell_cmp ys → AllByRecursion (λ x. Below x ys) xs →
    IsStrictlySortedBy cell_cmp (xs ++ ys)
unfolding IsStrictlySortedBy Below
sorted-append [] ys s t all = t
sorted-append (x ∷ xs) ys s t all = (below-append x xs ys s.0 all.0, sorted-append xs ys s.1 t all.1)

keys-append : (es fs : List (Cell × Value)) → keys_of (es ++ fs) ≡ keys_of es ++ keys_of fs
keys-append [] fs = refl
keys-append (e ∷ es) fs = ap (λ xs. e.0 ∷ xs) (keys-append es fs)

All-append : (p : Cell → Bool) (b : Bool) (xs ys : List Cell) → AllByRecursion (λ x. p x ≡ b) xs → AllByRecursion (λ x. p x ≡ b) ys →
    AllByRecursion (λ x. p x ≡ b) (xs ++ ys)
All-append p b [] ys h k = k
All-append p b (x ∷ xs) ys h k = (h.0, All-append p b xs ys h.1 k)

-- ---- the kinds

low_first : (x y : Cell) → is_low x ≡ true → is_low y ≡ false → cell_cmp x y ≡ Less
low_first (Object m) (Member e j) h k = refl
low_first (Object m) (Mapping n) h k = refl
low_first (Object m) (Use e n) h k = refl
low_first (Object m) (Implicit n) h k = refl
low_first (Object m) (Element n j) h k = refl
low_first (Shape m) (Member e j) h k = refl
low_first (Shape m) (Mapping n) h k = refl
low_first (Shape m) (Use e n) h k = refl
low_first (Shape m) (Implicit n) h k = refl
low_first (Shape m) (Element n j) h k = refl
low_first (In m i) (Member e j) h k = refl
low_first (In m i) (Mapping n) h k = refl
low_first (In m i) (Use e n) h k = refl
low_first (In m i) (Implicit n) h k = refl
low_first (In m i) (Element n j) h k = refl
low_first x (Object n) h k = cc
low_first x (Shape n) h k = cc
low_first x (In n j) h k = cc
low_first (Member m i) y h k = cc
low_first (Mapping m) y h k = cc
low_first (Use d m) y h k = cc
low_first (Implicit m) y h k = cc
low_first (Element m i) y h k = cc

high_last : (d : Name) (i : Index) (y : Cell) → is_high y ≡ true → cell_cmp (Member d i) y ≡ Less
high_last d i (Object n) h = cc
high_last d i (Shape n) h = cc
high_last d i (In n j) h = cc
high_last d i (Member e j) h = cc
high_last d i (Mapping n) h = refl
high_last d i (Use e n) h = refl
high_last d i (Implicit n) h = refl
high_last d i (Element n j) h = refl

low_below : (x : Cell) → is_low x ≡ true → (ys : List Cell) → AllByRecursion (λ y. is_low y ≡ false) ys → Below x ys
unfolding Below
low_below x h [] all = tt
low_below x h (y ∷ ys) all = (low_first x y h all.0, low_below x h ys all.1)

lows_below : (xs ys : List Cell) → AllByRecursion (λ x. is_low x ≡ true) xs → AllByRecursion (λ y. is_low y ≡ false) ys → AllByRecursion (λ x. Below x ys) xs
lows_below [] ys h k = tt
lows_below (x ∷ xs) ys h k = (low_below x h.0 ys k, lows_below xs ys h.1 k)

member_below : (d : Name) (i : Index) (ys : List Cell) → AllByRecursion (λ y. is_high y ≡ true) ys → Below (Member d i) ys
unfolding Below
member_below d i [] all = tt
member_below d i (y ∷ ys) all = (high_last d i y all.0, member_below d i ys all.1)

pub none_there : {A : Type 0} (o : Option Value) → o ≡ None → IsSome o → A
none_there None e here = cc
none_there (Some v) e here = cc

-- what a map of one kind has is of that kind
there : (p : Cell → Bool) (es : List (Cell × Value)) → Only p es → (c : Cell) → IsSome (value_in es c) → p c ≡ true
there p es only c here = by (p c) refl
  where
    by : (b : Bool) → p c ≡ b → b ≡ true
    by true e = refl
    by false e = none_there (value_in es c) (only c e) here

each_there : (p : Cell → Bool) (m : BTreeMap Cell Value) → Only p m.entries → (xs : List Cell) → AllByRecursion (ContainsKey cell_cmp m) xs →
    AllByRecursion (λ x. p x ≡ true) xs
each_there p m only [] all = tt
each_there p m only (x ∷ xs) all = (there p m.entries only x all.0, each_there p m only xs all.1)

pub all_of_kind : (p : Cell → Bool) (m : BTreeMap Cell Value) → Only p m.entries → IsOrdered cell_cmp m → AllByRecursion (λ x. p x ≡ true) (keys m)
all_of_kind p m only ordered =
    each_there p m only (keys m) (recursion_from_All (ContainsKey cell_cmp m) (keys m) (All-keys_found cell_order.total m ordered))

high_is_not_low : (c : Cell) → is_high c ≡ true → is_low c ≡ false
high_is_not_low (Object n) h = cc
high_is_not_low (Shape n) h = cc
high_is_not_low (In n i) h = cc
high_is_not_low (Member d i) h = refl
high_is_not_low (Mapping n) h = refl
high_is_not_low (Use d n) h = refl
high_is_not_low (Implicit n) h = refl
high_is_not_low (Element n i) h = refl

all_not_low : (xs : List Cell) → AllByRecursion (λ x. is_high x ≡ true) xs → AllByRecursion (λ x. is_low x ≡ false) xs
all_not_low [] all = tt
all_not_low (x ∷ xs) all = (high_is_not_low x all.0, all_not_low xs all.1)

-- ---- members

members_not_low : (d : Name) (is : List Index) → AllByRecursion (λ x. is_low x ≡ false) (keys_of (member_cells (d, is)))
members_not_low d [] = tt
members_not_low d (i ∷ is) = (refl, members_not_low d is)

sets_not_low : (ms : List (Name × List Index)) → AllByRecursion (λ x. is_low x ≡ false) (keys_of (flat_map member_cells ms))
sets_not_low [] = tt
sets_not_low (m ∷ ms) = subst (λ (xs : List Cell). AllByRecursion (λ x. is_low x ≡ false) xs) (sym (keys-append (member_cells m) (flat_map member_cells ms)))
    (All-append is_low false _ _ (members_not_low m.0 m.1) (sets_not_low ms))

members_before : (ys : List Cell) → AllByRecursion (λ y. is_high y ≡ true) ys → (d : Name) (is : List Index) →
    AllByRecursion (λ x. Below x ys) (keys_of (member_cells (d, is)))
members_before ys all d [] = tt
members_before ys all d (i ∷ is) = (member_below d i ys all, members_before ys all d is)

All2-append : (ys xs zs : List Cell) → AllByRecursion (λ x. Below x ys) xs → AllByRecursion (λ x. Below x ys) zs → AllByRecursion (λ x. Below x ys) (xs ++ zs)
All2-append ys [] zs h k = k
All2-append ys (x ∷ xs) zs h k = (h.0, All2-append ys xs zs h.1 k)

sets_before : (ys : List Cell) → AllByRecursion (λ y. is_high y ≡ true) ys → (ms : List (Name × List Index)) →
    AllByRecursion (λ x. Below x ys) (keys_of (flat_map member_cells ms))
sets_before ys all [] = tt
sets_before ys all (m ∷ ms) = subst (λ (xs : List Cell). AllByRecursion (λ x. Below x ys) xs) (sym (keys-append (member_cells m) (flat_map member_cells ms)))
    (All2-append ys _ _ (members_before ys all m.0 m.1) (sets_before ys all ms))

-- the members of one domain
after_member : (d : Name) (i : Index) (is : List Index) → AllByRecursion (λ j. index_cmp i j ≡ Less) is → Below (Member d i) (keys_of (member_cells (d, is)))
unfolding Below
after_member d i [] all = tt
after_member d i (j ∷ is) all = (ap (λ o. ordering_then o (index_cmp i j)) (tied_itself nat_list_cmp_total d) ∙ all.0, after_member d i is all.1)

pub set_ascends : (d : Name) (is : List Index) → IsStrictlySortedBy index_cmp is → IsStrictlySortedBy cell_cmp (keys_of (member_cells (d, is)))
unfolding IsStrictlySortedBy Below
set_ascends d [] s = tt
set_ascends d (i ∷ is) s = (after_member d i is s.0, set_ascends d is s.1)

-- those of a domain are below those of the domains behind it
below_set : (d e : Name) (i : Index) → slice_cmp nat_cmp d e ≡ Less → (is : List Index) → Below (Member d i) (keys_of (member_cells (e, is)))
unfolding Below
below_set d e i less [] = tt
below_set d e i less (j ∷ is) = (ap (λ o. ordering_then o (index_cmp i j)) less, below_set d e i less is)

below_sets : (d : Name) (i : Index) (ms : List (Name × List Index)) → AllByRecursion (λ n. slice_cmp nat_cmp d n ≡ Less) (keys_of ms) →
    Below (Member d i) (keys_of (flat_map member_cells ms))
unfolding Below
below_sets d i [] all = tt
below_sets d i (m ∷ ms) all = subst (λ (xs : List Cell). Below (Member d i) xs) (sym (keys-append (member_cells m) (flat_map member_cells ms)))
    (below-append (Member d i) _ _ (below_set d m.0 i all.0 m.1) (below_sets d i ms all.1))

set_below_sets : (d : Name) (is : List Index) (ms : List (Name × List Index)) → AllByRecursion (λ n. slice_cmp nat_cmp d n ≡ Less) (keys_of ms) →
    AllByRecursion (λ x. Below x (keys_of (flat_map member_cells ms))) (keys_of (member_cells (d, is)))
set_below_sets d [] ms all = tt
set_below_sets d (i ∷ is) ms all = (below_sets d i ms all, set_below_sets d is ms all)

-- the first domain's, and those of the others
first_ascends : (m : Name × List Index) (ms : List (Name × List Index)) → AscendEach (m ∷ ms) → IsStrictlySortedBy index_cmp m.1
first_ascends m ms each = each m.0 m.1 (ap (λ o. cond (is_eq o) (Some m.1) (indices_in ms m.0)) (tied_itself nat_list_cmp_total m.0))

others_ascend : (m : Name × List Index) (ms : List (Name × List Index)) → AllByRecursion (λ n. slice_cmp nat_cmp m.0 n ≡ Less) (keys_of ms) →
    AscendEach (m ∷ ms) → AscendEach ms
others_ascend m ms behind each = λ d is found. by d is found (is_same_name d m.0) refl
  where
    by : (d : Name) (is : List Index) → indices_in ms d ≡ Some is → (b : Bool) → is_same_name d m.0 ≡ b → IsStrictlySortedBy index_cmp is
    by d is found true e =
        let none : None ≡ Some is = sym (none_behind d m.0 ms behind e) ∙ found in
        cc
    by d is found false e = each d is (ap (λ b. cond b (Some m.1) (indices_in ms d)) e ∙ found)

pub sets_ascend : (ms : List (Name × List Index)) → IsStrictlySortedBy (slice_cmp nat_cmp) (keys_of ms) → AscendEach ms →
    IsStrictlySortedBy cell_cmp (keys_of (flat_map member_cells ms))
unfolding IsStrictlySortedBy
sets_ascend [] s each = tt
sets_ascend (m ∷ ms) s each = subst (λ (xs : List Cell). IsStrictlySortedBy cell_cmp xs) (sym (keys-append (member_cells m) (flat_map member_cells ms)))
    (sorted-append _ _ (set_ascends m.0 m.1 (first_ascends m ms each)) (sets_ascend ms s.1 (others_ascend m ms s.0 each)) (set_below_sets m.0 m.1 ms s.0))

-- ---- all cells

pub stored_ascends : (low : BTreeMap Cell Value) (sets : BTreeMap Name (List Index)) (high : BTreeMap Cell Value) → IsStored low sets high →
    IsStrictlySortedBy cell_cmp (keys_of (stored_of low sets high).entries)
stored_ascends low sets high kept =
    let highs = all_of_kind is_high high kept.high_only kept.high_ascends in
    let behind : List (Cell × Value) = flat_map member_cells sets.entries ++ high.entries in
    let not_low : AllByRecursion (λ x. is_low x ≡ false) (keys_of behind) =
    subst (λ (xs : List Cell). AllByRecursion (λ x. is_low x ≡ false) xs) (sym (keys-append (flat_map member_cells sets.entries) high.entries))
    (All-append is_low false _ _ (sets_not_low sets.entries) (all_not_low (keys high) highs)) in
    let rest : IsStrictlySortedBy cell_cmp (keys_of behind) =
    subst (λ (xs : List Cell). IsStrictlySortedBy cell_cmp xs) (sym (keys-append (flat_map member_cells sets.entries) high.entries))
    (sorted-append _ _ (sets_ascend sets.entries kept.names_ascend kept.sets_ascend) kept.high_ascends (sets_before (keys high) highs sets.entries)) in
    subst (λ (xs : List Cell). IsStrictlySortedBy cell_cmp xs) (sym (keys-append low.entries behind))
    (sorted-append (keys low) (keys_of behind) kept.low_ascends rest
    (lows_below (keys low) (keys_of behind) (all_of_kind is_low low kept.low_only kept.low_ascends) not_low))

-- ---- all cells, one part after another

assoc : (xs ys zs : List (Cell × Value)) → (xs ++ ys) ++ zs ≡ xs ++ (ys ++ zs)
assoc [] ys zs = refl
assoc (x ∷ xs) ys zs = ap (λ (es : List (Cell × Value)). x ∷ es) (assoc xs ys zs)

pub all_listed : (low : BTreeMap Cell Value) (sets : BTreeMap Name (List Index)) (high : BTreeMap Cell Value) → IsStored low sets high →
    (first second third fourth : List (Cell × Value)) → first ≡ [] → second ≡ first ++ low.entries → third ≡ second ++ flat_map member_cells sets.entries →
    fourth ≡ third ++ high.entries → fourth ≡ entries (state_of (stored_of low sets high))
all_listed low sets high kept first second third fourth none lows members highs =
    highs
    ∙ ap (λ (es : List (Cell × Value)). es ++ high.entries)
    (members ∙ ap (λ (es : List (Cell × Value)). es ++ flat_map member_cells sets.entries)
    (lows ∙ ap (λ (es : List (Cell × Value)). es ++ low.entries) none))
    ∙ assoc low.entries (flat_map member_cells sets.entries) high.entries
    ∙ sym (entries-state_of (stored_of low sets high) (stored_ascends low sets high kept))
