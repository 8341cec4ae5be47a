-- The elements of an array, by what a workbook holds.
use Rattle.std.proofs.Common.{◌≡◌, true, false, cond, T, ℤ, List, [], ◌∷◌, Option, Some, None, option_map, is_some, refl, sym, ap, subst, ◌∙◌, Ordering}
use Rattle.std.proofs.Common.{◌++◌, map, append_assoc}
use Rattle.std.specs.Cmp.Lexicographic.{slice_cmp}
use Rattle.std.specs.FinMap.{get, find, is_sorted, entries, entries_sorted, get-entries}
use Rattle.std.specs.FinMap.Entries.{below_all, where_key}
use Rattle.std.specs.List.{AllByRecursion, filter_map, cons_option, list_all}
use Rattle.std.specs.List.Sorted.{IsStrictlySortedBy}
use Rattle.std.specs.Map.{keys_of}
use Rattle.std.specs.Option.{option_and_then}
use Rattle.std.specs.Ordering.{is_eq, is_lt, nat_cmp, ordering_then}
use Rattle.std.specs.declared.cmp.Ordering.TheVariants.{Less, Equal, Greater}
use Rattle.wb_range.specs.Domain.{IsListedOnce}
use Rattle.wb_sets.proofs.Ascending.{IsListedOnce-sorted}
use Rattle.wb_cells.specs.declared.cells.cell.Cell.{Cell}
use Rattle.wb_cells.specs.declared.cells.pattern.Pattern.{Pattern}
use Rattle.wb_cells.specs.declared.cells.cell.Cell.TheVariants.{Element}
use Rattle.wb_cells.specs.declared.cells.pattern.Pattern.TheVariants.{Elements}
use Rattle.wb_cells.specs.declared.cells.value.Value.{Value}
use Rattle.wb_cells.specs.declared.cells.value.Value.TheVariants.{Number}
use Rattle.wb_cells.specs.declared.values.index.Index.{Index}
use Rattle.wb_cells.specs.Cells.{Name, Cells, cell_cmp, index_cmp, cell_order, index_cmp-IsAntisymmetric, is_same_name, matches}
use Rattle.wb_cells.specs.contracts.values.index.IndexOrd.TheImpl.Laws as laws
use Rattle.wb_cells.specs.Readers.{element_in, elements}
use Rattle.selective_undo.specs.Changes.{IsOrder}
use Rattle.selective_undo.specs.Edit.{reads}
use Rattle.wb_edit.specs.Elements as looks
use Rattle.wb_edit.specs.Plans.{Gives}
use Rattle.selective_undo.proofs.Evaluation.{entries-retain_keys}
use Rattle.wb_reshape.proofs.States.{same_name}
use Rattle.wb_reshape.proofs.Sorted.{both, first, second, none_below, of_entries}

pub index_order : IsOrder index_cmp
index_order = record { total = laws.total-law; strict = index_cmp-IsAntisymmetric }

-- the number in a value
abbrev pub number_of : Value → Option ℤ
number_of (Number x) = Some x
number_of _ = None

-- ---- in a list of cells in their order

-- those of the array, each after its index
abbrev pub those_of : Name → List (Cell × Value) → List (Index × ℤ)
those_of a es = filter_map element_in (where_key cell_cmp (matches (Elements a)) es)

shown_as : (b : Name) (j : Index) (v : Value) → element_in (Element b j, v) ≡ option_map (λ x. (j, x)) (number_of v)
shown_as b j (Number x) = refl
shown_as b j _ = refl

-- the order compares the names first
then_index : (o p : Ordering) → is_eq o ≡ true → ordering_then o p ≡ p
then_index Less p e = cc
then_index Equal p e = refl
then_index Greater p e = cc

other_name : (o p : Ordering) → is_eq o ≡ false → is_eq (ordering_then o p) ≡ false
other_name Less p e = refl
other_name Equal p e = cc
other_name Greater p e = refl

tied : (o : Ordering) → is_eq o ≡ true → o ≡ Equal
tied Less e = cc
tied Equal e = refl
tied Greater e = cc

found_here : (i j : Index) (o : Option ℤ) (rest : List (Index × ℤ)) (v : Value) (there : Option Value) → number_of v ≡ o →
    (is_eq (index_cmp i j) ≡ true → there ≡ None)
    → find index_cmp i rest ≡ option_and_then number_of there → find index_cmp i (cons_option (option_map (λ x. (j, x)) o) rest) ≡ option_and_then number_of
    (cond (is_eq (index_cmp i j)) (Some v) there)
found_here i j None rest v there none alone is = elim (is_eq (index_cmp i j)) as
    (λ b. is_eq (index_cmp i j) ≡ b → find index_cmp i rest ≡ option_and_then number_of (cond b (Some v) there)) [
      | true ↦ λ same. is ∙ ap (option_and_then number_of) (alone same) ∙ sym none
      | false ↦ λ other. is
    ] refl
found_here i j (Some x) rest v there number alone is = elim (is_eq (index_cmp i j)) as
    (λ b. cond b (Some x) (find index_cmp i rest) ≡ option_and_then number_of (cond b (Some v) there)) [
      | true ↦ sym number
      | false ↦ is
    ]

-- at an index, the number that the cell holds
find_those : (a : Name) (i : Index) (es : List (Cell × Value)) → T (is_sorted cell_cmp es) →
    find index_cmp i (those_of a es) ≡ option_and_then number_of (find cell_cmp (Element a i) es)
find_those a i [] s = refl
find_those a i ((Element b j, v) ∷ es) s =
    let rest = find_those a i es (second _ _ s) in
    elim (is_same_name a b) as (λ k. is_same_name a b ≡ k → find index_cmp i
    (filter_map element_in (cond k ((Element b j, v) ∷ where_key cell_cmp (matches (Elements a)) es) (where_key cell_cmp (matches (Elements a)) es))) ≡
    option_and_then number_of (cond (is_eq (ordering_then (slice_cmp nat_cmp a b) (index_cmp i j))) (Some v) (find cell_cmp (Element a i) es))) [
      | true ↦ λ same.
          let alone : is_eq (index_cmp i j) ≡ true → find cell_cmp (Element a i) es ≡ None = λ e.
          let name : a ≡ b = same_name a b same in
          let index : i ≡ j = index_cmp-IsAntisymmetric i j (tied (index_cmp i j) e) in
          ap (λ n. find cell_cmp (Element n i) es) name ∙ ap (λ k. find cell_cmp (Element b k) es) index ∙ none_below cell_cmp (Element b j) es (first _ _ s) in
          rw (then_index (slice_cmp nat_cmp a b) (index_cmp i j) same, shown_as b j v)
          (found_here i j (number_of v) (those_of a es) v (find cell_cmp (Element a i) es) refl alone rest)
      | false ↦ λ other. rw (other_name (slice_cmp nat_cmp a b) (index_cmp i j) other) rest
    ] refl
find_those a i (e ∷ es) s = find_those a i es (second _ _ s)

below_here : (i j : Index) (o : Option ℤ) (rest : List (Index × ℤ)) → T (is_lt (index_cmp i j)) → T (below_all index_cmp i rest) →
    T (below_all index_cmp i (cons_option (option_map (λ x. (j, x)) o) rest))
below_here i j None rest low below = below
below_here i j (Some x) rest low below = both _ _ low below

below_those : (a : Name) (i : Index) (es : List (Cell × Value)) → T (below_all cell_cmp (Element a i) es) → T (below_all index_cmp i (those_of a es))
below_those a i [] s = tt
below_those a i ((Element b j, v) ∷ es) s =
    let rest = below_those a i es (second _ _ s) in
    elim (is_same_name a b) as (λ k. is_same_name a b ≡ k → T (below_all index_cmp i
    (filter_map element_in (cond k ((Element b j, v) ∷ where_key cell_cmp (matches (Elements a)) es) (where_key cell_cmp (matches (Elements a)) es))))) [
      | true ↦ λ same. rw (shown_as b j v) (below_here i j (number_of v) (those_of a es)
          (subst (λ o. T (is_lt o)) (then_index (slice_cmp nat_cmp a b) (index_cmp i j) same) (first _ _ s)) rest)
      | false ↦ λ other. rest
    ] refl
below_those a i (e ∷ es) s = below_those a i es (second (is_lt (cell_cmp (Element a i) e.0)) (below_all cell_cmp (Element a i) es) s)

sorted_here : (j : Index) (o : Option ℤ) (rest : List (Index × ℤ)) → T (below_all index_cmp j rest) → T (is_sorted index_cmp rest) →
    T (is_sorted index_cmp (cons_option (option_map (λ x. (j, x)) o) rest))
sorted_here j None rest below s = s
sorted_here j (Some x) rest below s = both _ _ below s

sorted_those : (a : Name) (es : List (Cell × Value)) → T (is_sorted cell_cmp es) → T (is_sorted index_cmp (those_of a es))
sorted_those a [] s = tt
sorted_those a ((Element b j, v) ∷ es) s =
    let rest = sorted_those a es (second _ _ s) in
    elim (is_same_name a b) as (λ k. is_same_name a b ≡ k → T (is_sorted index_cmp
    (filter_map element_in (cond k ((Element b j, v) ∷ where_key cell_cmp (matches (Elements a)) es) (where_key cell_cmp (matches (Elements a)) es))))) [
      | true ↦ λ same. rw (shown_as b j v) (sorted_here j (number_of v) (those_of a es)
          (below_those a j es (subst (λ n. T (below_all cell_cmp (Element n j) es)) (sym (same_name a b same)) (first _ _ s))) rest)
      | false ↦ λ other. rest
    ] refl
sorted_those a (e ∷ es) s = sorted_those a es (second _ _ s)

-- ---- in a workbook

those_in : (s : Cells) (a : Name) → those_of a (entries s) ≡ elements s a
those_in s a = ap (filter_map element_in) (sym (entries-retain_keys cell_order s (matches (Elements a))))

pub elements_ascend : (s : Cells) (a : Name) → T (is_sorted index_cmp (elements s a))
elements_ascend s a = subst (λ es. T (is_sorted index_cmp es)) (those_in s a) (sorted_those a (entries s) (entries_sorted s))

pub find_element : (s : Cells) (a : Name) (i : Index) → find index_cmp i (elements s a) ≡ option_and_then number_of (get s (Element a i))
find_element s a i = ap (find index_cmp i) (sym (those_in s a)) ∙ find_those a i (entries s) (entries_sorted s) ∙
    ap (option_and_then number_of) (sym (get-entries s (Element a i)))

was_some : (o : Option Value) (x : ℤ) → option_and_then number_of o ≡ Some x → is_some o ≡ true
was_some None x e = cc
was_some (Some v) x e = refl

-- each of them is there
pub elements_there : (s : Cells) (a : Name) → AllByRecursion (λ e. is_some (get s (Element a e.0)) ≡ true) (elements s a)
elements_there s a = of_entries index_order (λ i x. is_some (get s (Element a i)) ≡ true) (elements s a) (elements_ascend s a)
    (λ i x there. was_some (get s (Element a i)) x (sym (find_element s a i) ∙ there))

-- ---- their indices

less : (o : Ordering) → T (is_lt o) → o ≡ Less
less Less p = refl
less Equal p = absurd p
less Greater p = absurd p

above : (i : Index) (es : List (Index × ℤ)) → T (below_all index_cmp i es) → AllByRecursion (λ j. index_cmp i j ≡ Less) (keys_of es)
above i [] s = tt
above i (e ∷ es) s = (less (index_cmp i e.0) (first _ _ s), above i es (second _ _ s))

keys_ascend : (es : List (Index × ℤ)) → T (is_sorted index_cmp es) → IsStrictlySortedBy index_cmp (keys_of es)
unfolding IsStrictlySortedBy
keys_ascend [] s = tt
keys_ascend (e ∷ es) s = (above e.0 es (first _ _ s), keys_ascend es (second _ _ s))

-- each index once
pub elements_once : (s : Cells) (a : Name) → IsListedOnce (keys_of (elements s a))
elements_once s a = IsListedOnce-sorted index_cmp laws.total-law index_cmp-IsAntisymmetric _ (keys_ascend (elements s a) (elements_ascend s a))

all_there : (s : Cells) (a : Name) (es : List (Index × ℤ)) → AllByRecursion (λ e. is_some (get s (Element a e.0)) ≡ true) es →
    list_all is_some (map (get s) (map (Element a) (keys_of es))) ≡ true
all_there s a [] there = refl
all_there s a (e ∷ es) there = let rest = all_there s a es there.1 in rw (there.0, rest) refl

-- each of them is there, by the indices
pub indices_there : (s : Cells) (a : Name) (is : List Index) → keys_of (elements s a) ≡ is → list_all is_some (map (get s) (map (Element a) is)) ≡ true
indices_there s a is same = subst (λ (js : List Index). list_all is_some (map (get s) (map (Element a) js)) ≡ true) same
    (all_there s a (elements s a) (elements_there s a))

-- ---- the look at them

pub gives_elements : (s : Cells) (a : Name) (rs ss : List Pattern) → ss ≡ rs ++ Elements a ∷ [] → Gives (looks.elements a) s rs (elements s a) ss
gives_elements s a rs ss kept = λ next. (
  refl,
  sym (append_assoc rs (Elements a ∷ []) (reads (next (elements s a)) s)) ∙ ap (λ xs. xs ++ reads (next (elements s a)) s) (sym kept),
)
