-- The users of a domain, as a look at all of them shows them: ascending, each once, and exactly those that are bound to it.
use Rattle.std.proofs.Common.{◌≡◌, Bool, true, false, cond, ◌||◌, T, List, [], ◌∷◌, Option, Some, None, option_map, refl, sym, ap, ◌∙◌}
use Rattle.std.proofs.lemmas.Map.Views.{Contains-from_any, list_any-from_Contains}
use Rattle.std.specs.Cmp.{Equal-is, eq_by_cmp_equiv}
use Rattle.std.specs.Cmp.Lexicographic.{slice_cmp, nat_list_cmp_total}
use Rattle.std.specs.FinMap.{get, find, is_sorted}
use Rattle.std.specs.FinMap.Entries.{below_all}
use Rattle.std.specs.List.{AllByRecursion, Contains, cons_option, filter_map, list_any}
use Rattle.std.specs.List.Sorted.{IsStrictlySortedBy}
use Rattle.std.specs.Ordering.{nat_cmp}
use Rattle.std.specs.declared.cmp.Ordering.TheVariants.{Less, Equal}
use Rattle.wb_range.specs.Domain.{IsListedOnce}
use Rattle.wb_sets.proofs.Ascending.{IsListedOnce-sorted}
use Rattle.wb_cells.specs.declared.cells.cell.Cell.{Cell}
use Rattle.wb_cells.specs.declared.cells.cell.Cell.TheVariants.{Object, Use}
use Rattle.wb_cells.specs.declared.cells.kind.DomainKind.TheVariants.{Sparse}
use Rattle.wb_cells.specs.declared.cells.pattern.Pattern.TheVariants.{Uses}
use Rattle.wb_cells.specs.declared.cells.value.Binding.{Binding}
use Rattle.wb_cells.specs.declared.cells.value.Binding.TheVariants.{Array as BoundArray, Sparse as BoundSparse}
use Rattle.wb_cells.specs.declared.cells.value.Value.{Value}
use Rattle.wb_cells.specs.declared.cells.value.Value.TheVariants.{Domain, Array, Bound}
use Rattle.wb_cells.specs.Cells.{Name, Cells, cell_cmp, is_same_name, same_names}
use Rattle.wb_cells.specs.Readers.{seen}
use Rattle.wb_cells.specs.WellFormed.{IsWellFormed, use_of}
use Rattle.wb_reshape.specs.Users.{binding_in, user_in, bound}
use Rattle.wb_reshape.proofs.Seen.{AreNamed, seen_named, seen_sorted, find_seen, same_family, second_less, second_tie}
use Rattle.wb_reshape.proofs.Sorted.{first, second, none_below}
use Rattle.wb_reshape.proofs.States.{same_name, itself}

-- whether a cell says that something is bound so
abbrev pub is_bound : Binding → Option Value → Bool
is_bound BoundArray (Some (Bound BoundArray)) = true
is_bound BoundSparse (Some (Bound BoundSparse)) = true
is_bound how v = false

bound_is : (how : Binding) (v : Option Value) → is_bound how v ≡ true → v ≡ Some (Bound how)
bound_is BoundArray (Some (Bound BoundArray)) e = refl
bound_is BoundSparse (Some (Bound BoundSparse)) e = refl
bound_is BoundArray _ e = cc
bound_is BoundSparse _ e = cc

bound_itself : (how : Binding) → is_bound how (Some (Bound how)) ≡ true
bound_itself BoundArray = refl
bound_itself BoundSparse = refl

-- the name where it is bound so
abbrev if_bound : Binding → Name → Value → Option Name
if_bound how m v = cond (is_bound how (Some v)) (Some m) None

one_more : (how : Binding) (m : Name) (v : Value) (us : List (Name × Binding)) →
    bound how (cons_option (option_map (λ h. (m, h)) (binding_in v)) us) ≡ cons_option (if_bound how m v) (bound how us)
one_more BoundArray m (Bound BoundArray) us = refl
one_more BoundArray m (Bound BoundSparse) us = refl
one_more BoundSparse m (Bound BoundArray) us = refl
one_more BoundSparse m (Bound BoundSparse) us = refl
one_more BoundArray m v us = refl
one_more BoundSparse m v us = refl

-- ---- ascending

less_first : (n m : Name) (b : Bool) (ns : List Name) → slice_cmp nat_cmp n m ≡ Less → AllByRecursion (λ k. slice_cmp nat_cmp n k ≡ Less) ns →
    AllByRecursion (λ k. slice_cmp nat_cmp n k ≡ Less) (cons_option (cond b (Some m) None) ns)
less_first n m true ns low all = (low, all)
less_first n m false ns low all = all

above : (how : Binding) (d e n : Name) (es : List (Cell × Value)) → is_same_name d e ≡ true → T (below_all cell_cmp (Use e n) es) → AreNamed (Uses d) es →
    AllByRecursion (λ m. slice_cmp nat_cmp n m ≡ Less) (bound how (filter_map user_in es))
above how d e n [] same below of = tt
above how d e n ((Use f m, v) ∷ es) same below of =
    rw (one_more how m v (filter_map user_in es)) (
    less_first n m (is_bound how (Some v)) (bound how (filter_map user_in es))
    (second_less (slice_cmp nat_cmp e f) (slice_cmp nat_cmp n m) (same_family d e f same of.0) (first _ _ below))
    (above how d e n es same (second _ _ below) of.1))
above how d e n ((c, v) ∷ es) same below of = let no : ⊥ = cc in absurd no

sorted_first : (m : Name) (b : Bool) (ns : List Name) → AllByRecursion (λ k. slice_cmp nat_cmp m k ≡ Less) ns → IsStrictlySortedBy (slice_cmp nat_cmp) ns →
    IsStrictlySortedBy (slice_cmp nat_cmp) (cons_option (cond b (Some m) None) ns)
unfolding IsStrictlySortedBy
sorted_first m true ns low sorted = (low, sorted)
sorted_first m false ns low sorted = sorted

ascending : (how : Binding) (d : Name) (es : List (Cell × Value)) → T (is_sorted cell_cmp es) → AreNamed (Uses d) es →
    IsStrictlySortedBy (slice_cmp nat_cmp) (bound how (filter_map user_in es))
unfolding IsStrictlySortedBy
ascending how d [] sorted of = tt
ascending how d ((Use e n, v) ∷ es) sorted of =
    rw (one_more how n v (filter_map user_in es)) (
    sorted_first n (is_bound how (Some v)) (bound how (filter_map user_in es)) (above how d e n es of.0 (first _ _ sorted) of.1)
    (ascending how d es (second _ _ sorted) of.1))
ascending how d ((c, v) ∷ es) sorted of = let no : ⊥ = cc in absurd no

-- ---- exactly those that are bound to it

-- the first of some names, if it is one of them, is a or not
listed_first : (a m : Name) (b : Bool) (ns : List Name) (o : Option Value) (how : Binding) (v : Value) → is_bound how (Some v) ≡ b →
    list_any (is_same_name a) ns ≡ is_bound how o
    → (is_same_name a m ≡ true → o ≡ None) → list_any (is_same_name a) (cons_option (cond b (Some m) None) ns) ≡ is_bound how
    (cond (is_same_name a m) (Some v) o)
listed_first a m true ns o how v is rest alone = elim (is_same_name a m) as (λ k. (k || list_any (is_same_name a) ns) ≡ is_bound how (cond k (Some v) o)) [
  | true ↦ sym is
  | false ↦ rest
]
listed_first a m false ns o how v is rest alone = elim (is_same_name a m) as
    (λ k. is_same_name a m ≡ k → list_any (is_same_name a) ns ≡ is_bound how (cond k (Some v) o)) [
      | true ↦ λ same. rest ∙ ap (is_bound how) (alone same) ∙ none_bound how ∙ sym is
      | false ↦ λ other. rest
    ] refl
  where
    none_bound : (how : Binding) → is_bound how None ≡ false
    none_bound BoundArray = refl
    none_bound BoundSparse = refl

listed : (how : Binding) (d a : Name) (es : List (Cell × Value)) → T (is_sorted cell_cmp es) → AreNamed (Uses d) es →
    list_any (is_same_name a) (bound how (filter_map user_in es)) ≡ is_bound how (find cell_cmp (Use d a) es)
listed BoundArray d a [] sorted of = refl
listed BoundSparse d a [] sorted of = refl
listed how d a ((Use f m, v) ∷ es) sorted of =
    let tie : slice_cmp nat_cmp d f ≡ Equal = (Equal-is _).0 of.0 in
    let alone : is_same_name a m ≡ true → find cell_cmp (Use d a) es ≡ None = λ same.
    ap (λ k. find cell_cmp (Use d k) es) (same_name a m same) ∙ ap (λ k. find cell_cmp (Use k m) es) (same_names d f tie) ∙
    none_below cell_cmp (Use f m) es (first _ _ sorted) in
    rw (one_more how m v (filter_map user_in es), second_tie (slice_cmp nat_cmp d f) (slice_cmp nat_cmp a m) tie) (
    listed_first a m (is_bound how (Some v)) (bound how (filter_map user_in es)) (find cell_cmp (Use d a) es) how v refl
    (listed how d a es (second _ _ sorted) of.1) alone)
listed how d a ((c, v) ∷ es) sorted of = let no : ⊥ = cc in absurd no

-- ---- in a workbook

module _ (s : Cells) (d : Name) where
  -- what is bound to the domain, and how
  abbrev pub users : List (Name × Binding)
  users = filter_map user_in (seen s (Uses d))

  pub bound_once : (how : Binding) → IsListedOnce (bound how users)
  bound_once how = IsListedOnce-sorted (slice_cmp nat_cmp) nat_list_cmp_total same_names (bound how users)
      (ascending how d (seen s (Uses d)) (seen_sorted s (Uses d)) (seen_named s (Uses d)))

  -- a name is among them exactly if its cell says so
  pub bound_there : (how : Binding) (a : Name) → list_any (is_same_name a) (bound how users) ≡ is_bound how (get s (Use d a))
  bound_there how a = listed how d a (seen s (Uses d)) (seen_sorted s (Uses d)) (seen_named s (Uses d)) ∙
      ap (is_bound how) (find_seen s (Uses d) (Use d a) (itself d))

  pub any-from_bound : (how : Binding) (a : Name) → get s (Use d a) ≡ Some (Bound how) → list_any (is_same_name a) (bound how users) ≡ true
  any-from_bound how a is = bound_there how a ∙ ap (is_bound how) is ∙ bound_itself how

  pub listed-from_bound : (how : Binding) (a : Name) → get s (Use d a) ≡ Some (Bound how) → Contains (bound how users) a
  listed-from_bound how a is = Contains-from_any same_name a (bound how users) (any-from_bound how a is)

  pub bound-from_listed : (how : Binding) (a : Name) → Contains (bound how users) a → get s (Use d a) ≡ Some (Bound how)
  bound-from_listed how a there = bound_is how (get s (Use d a))
      (sym (bound_there how a) ∙ list_any-from_Contains (eq_by_cmp_equiv nat_list_cmp_total) a (bound how users) there)

  -- ---- nothing is bound to it

  abbrev bound_if : Bool → Binding → Option Value
  bound_if b h = elim b as (λ _. Option Value) [ true ↦ Some (Bound h) | false ↦ None ]

  none_of : (b : Bool) (h : Binding) → ((how : Binding) → is_bound how (bound_if b h) ≡ false) → bound_if b h ≡ None
  none_of true h not_so = let no : true ≡ false = sym (bound_itself h) ∙ not_so h in cc
  none_of false h not_so = refl

  no_use : (e : Name) (o : Option Value) → ((how : Binding) → is_bound how (use_of e o) ≡ false) → use_of e o ≡ None
  no_use e (Some (Array f kind)) not_so = none_of (is_same_name e f) BoundArray not_so
  no_use e (Some (Domain (Sparse parent rank))) not_so = none_of (is_same_name e parent) BoundSparse not_so
  no_use e _ not_so = refl

  -- where the look shows none, no cell says that anything is
  pub unused : IsWellFormed s → users ≡ [] → (n : Name) → get s (Use d n) ≡ None
  unused h none n =
      let not_so : (how : Binding) → is_bound how (use_of d (get s (Object n))) ≡ false = λ how.
      ap (is_bound how) (sym (h.uses d n)) ∙ sym (bound_there how n) ∙ ap (λ us. list_any (is_same_name n) (bound how us)) none in
      h.uses d n ∙ no_use d (get s (Object n)) not_so
