-- The elements of an array that changes of one row set.
use Rattle.std.proofs.Common.{◌≡◌, ℕ, ◌+◌, ◌<◌, zero, suc, ℤ, Bool, true, false, cond, ◌&&◌, List, [], ◌∷◌, ◌++◌, length, map, take, get_or, Option}
use Rattle.std.proofs.Common.{nat_eq, Some, None, is_some, refl, sym, ap, subst, ◌∙◌, arith}
use Rattle.std.specs.BTreeMap.{is_at}
use Rattle.std.specs.Cmp.{eq_by_cmp_equiv}
use Rattle.std.specs.Cmp.Lexicographic.{slice_cmp, nat_list_cmp_total}
use Rattle.std.specs.Map.{set_value}
use Rattle.std.specs.Ordering.{nat_cmp}
use Rattle.std.specs.List.{list_all}
use Rattle.std.specs.Option.{option_map, option_and_then}
use Rattle.std.proofs.lemmas.Bool.{eqb-true}
use Rattle.std.proofs.lemmas.List.Folds.{list_all-append}
use Rattle.std.proofs.lemmas.Map.{lookup-set_value}
use Rattle.selective_undo.specs.declared.Change.{Change}
use Rattle.selective_undo.specs.Changes.{applied, apply}
use Rattle.wb_cells.specs.contracts.values.index.IndexOrd.TheImpl.Laws as index_laws
use Rattle.wb_cells.specs.declared.cells.cell.Cell.{Cell}
use Rattle.wb_cells.specs.declared.cells.value.Value.{Value}
use Rattle.wb_cells.specs.declared.cells.value.Value.TheVariants.{Number}
use Rattle.wb_cells.specs.declared.changes.row.IndexedRow.TheVariants.{Elements}
use Rattle.wb_cells.specs.declared.changes.run.ChangeRun.{ChangeRun}
use Rattle.wb_cells.specs.declared.values.index.Index.{Index}
use Rattle.wb_cells.specs.Cells.{Name, Cells, Changes, is_same_name, is_same_index}
use Rattle.wb_cells.specs.Runs.{changes_in, all_changes}
use Rattle.wb_elements.specs.Entries.{row_changes, element_at, sets_one, with_one, with_all}
use Rattle.wb_book.specs.Groups.{LeadTo}
use Rattle.wb_book.specs.Joined.{element_in}
use Rattle.wb_book.specs.Kept.{Pieced, array_in, with_elements, Agree, number_in, is_set}
use Rattle.wb_elements.specs.Piecewise.Changed.{changed_at}
use Rattle.wb_elements.specs.Piecewise.Marked.{as_changes}
use Rattle.wb_book.proofs.ElementsSet.{both_true, same_test}
use Rattle.wb_book.proofs.Entries.{row_leads, run_more}
use Rattle.wb_book.proofs.Written.{one_index, one_name}

-- ---- one element

at_one : (es : List (Index × ℤ)) (i : Index) (v : Option ℤ) (j : Index) → is_some v && is_some (element_at es i) ≡ true →
    element_at (with_one es i v) j ≡ cond (is_same_index j i) v (element_at es j)
at_one es i None j set = cc
at_one es i (Some v) j set =
    lookup-set_value (eq_by_cmp_equiv index_laws.total-law) (is_same_index i) (λ k l e. ap (λ (n : Index). is_same_index n l) (one_index i k e)) j v es set
    ∙ ap (λ (t : Bool). cond t (Some v) (element_at es j)) ((eq_by_cmp_equiv index_laws.total-law).symm i j)

there_one : (es : List (Index × ℤ)) (i : Index) (v : Option ℤ) (j : Index) → is_some v && is_some (element_at es i) ≡ true →
    is_some (element_at (with_one es i v) j) ≡ is_some (element_at es j)
there_one es i v j set =
    let parts = both_true (is_some v) (is_some (element_at es i)) set in
    ap is_some (at_one es i v j set) ∙ by (is_same_index j i) refl parts.0 parts.1
  where
    by : (t : Bool) → is_same_index j i ≡ t → is_some v ≡ true → is_some (element_at es i) ≡ true →
        is_some (cond t v (element_at es j)) ≡ is_some (element_at es j)
    by false e given there = refl
    by true e given there = given ∙ sym (ap (λ (k : Index). is_some (element_at es k)) (one_index j i e) ∙ there)

some_more : (n : ℕ) → nat_eq (suc n) 0 ≡ false
some_more n = by (nat_eq (suc n) 0) refl
  where
    by : (t : Bool) → nat_eq (suc n) 0 ≡ t → t ≡ false
    by false e = refl
    by true e = absurd (omega (arith, eqb-true (suc n) 0 e))

-- ---- all that changes set

module _ {I : Type 0} (f : I → Index) where
  same_sets : (element other : Index → Option ℤ) → ((j : Index) → is_some (other j) ≡ is_some (element j)) → (xs : List (I × Option ℤ)) →
      list_all (sets_one f other) xs ≡ list_all (sets_one f element) xs
  same_sets element other same [] = refl
  same_sets element other same (x ∷ xs) = rw (same (f x.0), same_sets element other same xs) refl

  still : (es : List (Index × ℤ)) (x : I × Option ℤ) (xs : List (I × Option ℤ)) → list_all (sets_one f (element_at es)) (x ∷ xs) ≡ true →
      list_all (sets_one f (element_at (with_one es (f x.0) x.1))) xs ≡ true
  still es x xs set =
      let parts = both_true (sets_one f (element_at es) x) (list_all (sets_one f (element_at es)) xs) set in
      same_sets (element_at es) (element_at (with_one es (f x.0) x.1)) (λ j. there_one es (f x.0) x.1 j parts.0) xs ∙ parts.1

  pub at_all : (xs : List (I × Option ℤ)) (es : List (Index × ℤ)) (j : Index) → list_all (sets_one f (element_at es)) xs ≡ true →
      element_at (with_all f es xs) j ≡ changed_at (as_changes f xs) (element_at es j) j
  at_all [] es j set = refl
  at_all (x ∷ xs) es j set =
      let parts = both_true (sets_one f (element_at es) x) (list_all (sets_one f (element_at es)) xs) set in
      at_all xs (with_one es (f x.0) x.1) j (still es x xs set)
      ∙ ap (λ (o : Option ℤ). changed_at (as_changes f xs) o j) (at_one es (f x.0) x.1 j parts.0)

  there_all : (xs : List (I × Option ℤ)) (es : List (Index × ℤ)) (j : Index) → list_all (sets_one f (element_at es)) xs ≡ true →
      is_some (element_at (with_all f es xs) j) ≡ is_some (element_at es j)
  there_all [] es j set = refl
  there_all (x ∷ xs) es j set =
      let parts = both_true (sets_one f (element_at es) x) (list_all (sets_one f (element_at es)) xs) set in
      there_all xs (with_one es (f x.0) x.1) j (still es x xs set) ∙ there_one es (f x.0) x.1 j parts.0

  number_there : (o : Option ℤ) → is_some (number_in (option_map Number o)) ≡ is_some o
  number_there None = refl
  number_there (Some z) = refl

  -- the changes of the elements of an array set what is there where those of its keys do
  pub row_sets : (element : Name → Index → Option ℤ) (a : Name) (xs : List (I × Option ℤ)) →
      list_all (is_set element) (row_changes f (Elements a) xs) ≡ list_all (sets_one f (element a)) xs
  row_sets element a [] = refl
  row_sets element a (x ∷ xs) = rw (number_there x.1, row_sets element a xs) refl

  never : (b : Bool) → b && false ≡ true → ⊥
  never true e = cc
  never false e = cc

  nothing_set : (xs : List (I × Option ℤ)) → list_all (sets_one f (λ i. None)) xs ≡ true → xs ≡ []
  nothing_set [] set = refl
  nothing_set (x ∷ xs) set = absurd (never (is_some x.1) ((both_true (is_some x.1 && false) (list_all (sets_one f (λ i. None)) xs) set).0))

  -- ---- the arrays

  -- the changes of the elements of an array that is there set what they set in it
  pub sets_found : (es : List (Name × Pieced)) (a : Name) (p : Pieced) (xs : List (I × Option ℤ)) → array_in es a ≡ Some p →
      list_all (is_set (element_in es)) (row_changes f (Elements a) xs) ≡ list_all (sets_one f (element_at p.0)) xs
  sets_found es a p xs found = row_sets (element_in es) a xs
      ∙ ap (λ (o : Option Pieced). list_all (sets_one f (λ i. option_and_then (λ q. element_at q.0 i) o)) xs) found

  -- where there is no such array, they set nothing
  pub sets_none : (es : List (Name × Pieced)) (a : Name) (xs : List (I × Option ℤ)) → array_in es a ≡ None →
      list_all (is_set (element_in es)) (row_changes f (Elements a) xs) ≡ nat_eq (length xs) 0
  sets_none es a xs gone = row_sets (element_in es) a xs
      ∙ ap (λ (o : Option Pieced). list_all (sets_one f (λ i. option_and_then (λ q. element_at q.0 i) o)) xs) gone ∙ by xs
    where
      never_both : (b : Bool) → b && false ≡ false
      never_both true = refl
      never_both false = refl

      by : (ys : List (I × Option ℤ)) → list_all (sets_one f (λ i. None)) ys ≡ nat_eq (length ys) 0
      by [] = refl
      by (y ∷ ys) = ap (λ b. b && list_all (sets_one f (λ i. None)) ys) (never_both (is_some y.1)) ∙ sym (some_more (length ys))

  pub array_written : (es : List (Name × Pieced)) (a b : Name) (w p : Pieced) (xs : List (I × Option ℤ)) → array_in es a ≡ Some p →
      w ≡ (with_all f p.0 xs, p.1) →
      array_in (set_value (is_at (slice_cmp nat_cmp a)) es w) b ≡ cond (is_same_name a b) (with_elements f (array_in es b) xs) (array_in es b)
  array_written es a b w p xs found is =
      lookup-set_value (eq_by_cmp_equiv nat_list_cmp_total) (is_same_name a) (λ x y e. ap (λ (n : Name). is_same_name n y) (one_name a x e)) b w es
      (ap is_some found)
      ∙ by (is_same_name a b) refl
    where
      by : (t : Bool) → is_same_name a b ≡ t → cond t (Some w) (array_in es b) ≡ cond t (with_elements f (array_in es b) xs) (array_in es b)
      by false e = refl
      by true e = ap (λ z. Some z) is ∙ sym (ap (λ o. with_elements f o xs) (ap (array_in es) (sym (one_name a b e)) ∙ found))

  pub array_absent : (es : List (Name × Pieced)) (a b : Name) (xs : List (I × Option ℤ)) → array_in es a ≡ None →
      array_in es b ≡ cond (is_same_name a b) (with_elements f (array_in es b) xs) (array_in es b)
  array_absent es a b xs none = by (is_same_name a b) refl
    where
      by : (t : Bool) → is_same_name a b ≡ t → array_in es b ≡ cond t (with_elements f (array_in es b) xs) (array_in es b)
      by false e = refl
      by true e = let gone : array_in es b ≡ None = ap (array_in es) (sym (one_name a b e)) ∙ none in rw gone refl

  module _ (es fs : List (Name × Pieced)) (a : Name) (xs : List (I × Option ℤ))
      (made : (b : Name) → array_in fs b ≡ cond (is_same_name a b) (with_elements f (array_in es b) xs) (array_in es b))
      (set : list_all (is_set (element_in es)) (row_changes f (Elements a) xs) ≡ true) where
    set_keys : list_all (sets_one f (element_in es a)) xs ≡ true
    set_keys = sym (row_sets (element_in es) a xs) ∙ set

    own_there : (o : Option Pieced) (j : Index) → list_all (sets_one f (λ i. option_and_then (λ p. element_at p.0 i) o)) xs ≡ true →
        option_and_then (λ p. element_at p.0 j) (with_elements f o xs) ≡ changed_at (as_changes f xs) (option_and_then (λ p. element_at p.0 j) o) j
    own_there None j h = sym (ap (λ ys. changed_at (as_changes f ys) None j) (nothing_set xs h))
    own_there (Some p) j h = at_all xs p.0 j h

    own_same : (o : Option Pieced) (j : Index) → list_all (sets_one f (λ i. option_and_then (λ p. element_at p.0 i) o)) xs ≡ true →
        is_some (option_and_then (λ p. element_at p.0 j) (with_elements f o xs)) ≡ is_some (option_and_then (λ p. element_at p.0 j) o)
    own_same None j h = refl
    own_same (Some p) j h = there_all xs p.0 j h

    at_name : (b : Name) → is_same_name a b ≡ true → list_all (sets_one f (element_in es b)) xs ≡ true
    at_name b e = subst (λ (n : Name). list_all (sets_one f (element_in es n)) xs ≡ true) (one_name a b e) set_keys

    pub elements_made : (b : Name) (j : Index) →
        element_in fs b j ≡ cond (is_same_name a b) (changed_at (as_changes f xs) (element_in es b j) j) (element_in es b j)
    elements_made b j = ap (option_and_then (λ p. element_at p.0 j)) (made b) ∙ by (is_same_name a b) refl
      where
        by : (t : Bool) → is_same_name a b ≡ t →
            option_and_then (λ p. element_at p.0 j) (cond t (with_elements f (array_in es b) xs) (array_in es b)) ≡
            cond t (changed_at (as_changes f xs) (element_in es b j) j) (element_in es b j)
        by false e = refl
        by true e = own_there (array_in es b) j (at_name b e)

    pub there_made : (b : Name) (j : Index) → is_some (element_in fs b j) ≡ is_some (element_in es b j)
    there_made b j = ap (λ o. is_some (option_and_then (λ p. element_at p.0 j) o)) (made b) ∙ by (is_same_name a b) refl
      where
        by : (t : Bool) → is_same_name a b ≡ t →
            is_some (option_and_then (λ p. element_at p.0 j) (cond t (with_elements f (array_in es b) xs) (array_in es b))) ≡ is_some (element_in es b j)
        by false e = refl
        by true e = own_same (array_in es b) j (at_name b e)

    chosen : (t : Bool) (o : Option ℤ) (j : Index) → changed_at (cond t (as_changes f xs) []) o j ≡ cond t (changed_at (as_changes f xs) o j) o
    chosen true o j = refl
    chosen false o j = refl

    pub agree_made : (s : Cells) → Agree es s → Agree fs (apply (row_changes f (Elements a) xs) s)
    agree_made s agree b j =
        let nothing : LeadTo [] b [] = λ t o i is. is in
        ap (option_map Number) (elements_made b j ∙ sym (chosen (is_same_name a b) (element_in es b j) j))
        ∙ row_leads f a xs [] b [] nothing s (element_in es b j) j (agree b j)

-- ---- changes of which none sets what is there

pub only_none : {X Y : Type 0} (p : X → Bool) (g : Y → X) → ((y : Y) → p (g y) ≡ false) → (ys : List Y) → list_all p (map g ys) ≡ true → map g ys ≡ []
only_none p g none [] all = refl
only_none p g none (y ∷ ys) all = absurd (true_false (p (g y)) (both_true (p (g y)) (list_all p (map g ys)) all).0 (none y))
  where
    true_false : (b : Bool) → b ≡ true → b ≡ false → ⊥
    true_false b t f = cc

pub none_set : {X Y : Type 0} (p : X → Bool) (g : Y → X) → ((y : Y) → p (g y) ≡ false) → (ys : List Y) → nat_eq (length ys) 0 ≡ list_all p (map g ys)
none_set p g none [] = refl
none_set p g none (y ∷ ys) = some_more (length ys) ∙ sym (ap (λ b. b && list_all p (map g ys)) (none y))

-- ---- one after another

pub same_tests : (element other : Name → Index → Option ℤ) → ((b : Name) (i : Index) → is_some (other b i) ≡ is_some (element b i)) → (xs : Changes) →
    list_all (is_set other) xs ≡ list_all (is_set element) xs
same_tests element other same [] = refl
same_tests element other same (x ∷ xs) = rw (same_test element other x.cell x.value same, same_tests element other same xs) refl

pub apply-append : (xs ys : Changes) (s : Cells) → apply (xs ++ ys) s ≡ apply ys (apply xs s)
apply-append [] ys s = refl
apply-append (x ∷ xs) ys s = apply-append xs ys (applied x s)

-- where all of the list pass, those of a run do
pub run_passes : (p : Change Cell Value → Bool) (rs : List ChangeRun) (k : ℕ) (r : ChangeRun) → k < length rs → r ≡ get_or rs k r →
    list_all p (all_changes rs) ≡ true → list_all p (changes_in r.form) ≡ true
run_passes p [] k r low is all = absurd (omega (arith, low))
run_passes p (x ∷ rs) zero r low is all =
    ap (λ (y : ChangeRun). list_all p (changes_in y.form)) is
    ∙ (both_true (list_all p (changes_in x.form)) (list_all p (all_changes rs)) (sym (list_all-append p (changes_in x.form) (all_changes rs)) ∙ all)).0
run_passes p (x ∷ rs) (suc k) r low is all =
    run_passes p rs k r (omega (arith, low)) is
    ((both_true (list_all p (changes_in x.form)) (list_all p (all_changes rs)) (sym (list_all-append p (changes_in x.form) (all_changes rs)) ∙ all)).1)

-- where those of a run don't all pass, not all of the list do
pub run_fails : (p : Change Cell Value → Bool) (rs : List ChangeRun) (k : ℕ) (r : ChangeRun) → k < length rs → r ≡ get_or rs k r →
    list_all p (changes_in r.form) ≡ false → list_all p (all_changes rs) ≡ false
run_fails p rs k r low is fails = by (list_all p (all_changes rs)) refl
  where
    by : (b : Bool) → list_all p (all_changes rs) ≡ b → b ≡ false
    by false e = refl
    by true e = let passes : list_all p (changes_in r.form) ≡ true = run_passes p rs k r low is e in cc

-- up to and with a run all pass
pub pass_more : (p : Change Cell Value → Bool) (rs : List ChangeRun) (k : ℕ) (r : ChangeRun) → k < length rs → r ≡ get_or rs k r →
    list_all p (all_changes (take k rs)) ≡ true → list_all p (changes_in r.form) ≡ true → list_all p (all_changes (take (k + 1) rs)) ≡ true
pass_more p rs k r low is all here =
    ap (list_all p) (run_more rs k r low is) ∙ list_all-append p (all_changes (take k rs)) (changes_in r.form)
    ∙ ap (λ (b : Bool). b && list_all p (changes_in r.form)) all ∙ here

pub apply_runs_more : (rs : List ChangeRun) (k : ℕ) (r : ChangeRun) (s : Cells) → k < length rs → r ≡ get_or rs k r →
    apply (all_changes (take (k + 1) rs)) s ≡ apply (changes_in r.form) (apply (all_changes (take k rs)) s)
apply_runs_more rs k r s low is =
    ap (λ (xs : Changes). apply xs s) (run_more rs k r low is) ∙ apply-append (all_changes (take k rs)) (changes_in r.form) s
