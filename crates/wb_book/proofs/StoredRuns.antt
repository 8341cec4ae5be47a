-- The changes of stored cells, run after run.
use Rattle.std.proofs.Common.{◌≡◌, ℕ, zero, suc, ◌+◌, ◌<◌, Bool, true, false, ◌||◌, ◌&&◌, not, cond, Option, List, [], ◌∷◌, ◌++◌, length, take, get_or, Some, None, filter, map, add-one, refl, sym, ap, subst, ◌∙◌, arith}
use Rattle.std.proofs.lemmas.List.{map-append, append-nil}
use Rattle.std.proofs.lemmas.List.Elements.{filter-append}
use Rattle.std.proofs.lemmas.List.Folds.{list_any-append}
use Rattle.std.specs.List.{list_all}
use Rattle.std.specs.FinMap.{get}
use Rattle.std.specs.Prelude.{ℤ, is_some, IsSome, slice_get}
use Rattle.std.specs.Ordering.{eq_by_cmp}
use Rattle.selective_undo.specs.declared.Change.{Change}
use Rattle.selective_undo.specs.Changes.{apply, changes, clears, inverse, sets}
use Rattle.selective_undo.proofs.AllOrNothing.{sets-cons, set_stays}
use Rattle.selective_undo.proofs.Changes.{not_true}
use Rattle.selective_undo.proofs.Locality.{or_neither}
use Rattle.wb_cells.specs.declared.cells.cell.Cell.{Cell}
use Rattle.wb_cells.specs.declared.cells.cell.Cell.TheVariants.{Object, Shape, In, Member, Mapping, Use, Implicit, Element}
use Rattle.wb_cells.specs.declared.cells.value.Value.{Value}
use Rattle.wb_cells.specs.declared.changes.run.ChangeRun.{ChangeRun}
use Rattle.wb_cells.specs.Cells.{Cells, Changes, Name, cell_cmp, cell_order}
use Rattle.wb_cells.specs.declared.changes.row.IndexedRow.{IndexedRow}
use Rattle.wb_cells.specs.Runs.{changes_in, all_changes, packed_changes, labelled_changes}
use Rattle.wb_book.specs.Joined.{is_stored, stored_part}
use Rattle.wb_book.proofs.EachChange.{one_more}
use Rattle.wb_book.proofs.ElementsSet.{both_true}
use Rattle.wb_book.proofs.Entries.{run_more}
use Rattle.wb_book.proofs.EntriesSet.{apply-append}
use Rattle.wb_book.proofs.SetBack.{sets-append}

-- ---- one list after another

clears-append : (xs ys : Changes) → clears (xs ++ ys) ≡ clears xs ++ clears ys
clears-append [] ys = refl
clears-append (x ∷ xs) ys =
    elim x.value as (λ v. let y : Change Cell Value = record x { value = v } in clears (y ∷ (xs ++ ys)) ≡ clears (y ∷ xs) ++ clears ys) [
      | Some v ↦ clears-append xs ys
      | None ↦
          let y : Change Cell Value = record x { value = None } in
          ap (λ (zs : Changes). y ∷ zs) (clears-append xs ys)
    ]

stored-append : (xs ys : Changes) → stored_part (xs ++ ys) ≡ stored_part xs ++ stored_part ys
stored-append xs ys = filter-append (λ (x : Change Cell Value). is_stored x.cell) xs ys

stored_sets-append : (xs ys : Changes) → sets (stored_part (xs ++ ys)) ≡ sets (stored_part xs) ++ sets (stored_part ys)
stored_sets-append xs ys = ap sets (stored-append xs ys) ∙ sets-append (stored_part xs) (stored_part ys)

stored_clears-append : (xs ys : Changes) → clears (stored_part (xs ++ ys)) ≡ clears (stored_part xs) ++ clears (stored_part ys)
stored_clears-append xs ys = ap clears (stored-append xs ys) ∙ clears-append (stored_part xs) (stored_part ys)

-- f makes a list of changes of each list, and of one behind another the lists of both
abbrev Joins : (Changes → Changes) → Type 0
Joins f = (xs ys : Changes) → f (xs ++ ys) ≡ f xs ++ f ys

then_made : (f : Changes → Changes) → Joins f → (xs ys : Changes) (s t u : Cells) → t ≡ apply (f xs) s → u ≡ apply (f ys) t → u ≡ apply (f (xs ++ ys)) s
then_made f joins xs ys s t u so_far made =
    made ∙ ap (apply (f ys)) so_far ∙ sym (apply-append (f xs) (f ys) s) ∙ ap (λ (zs : Changes). apply zs s) (sym (joins xs ys))

pub then_set : (xs ys : Changes) (s t u : Cells) → t ≡ apply (sets (stored_part xs)) s → u ≡ apply (sets (stored_part ys)) t →
    u ≡ apply (sets (stored_part (xs ++ ys))) s
then_set = then_made (λ xs. sets (stored_part xs)) stored_sets-append

pub then_cleared : (xs ys : Changes) (s t u : Cells) → t ≡ apply (clears (stored_part xs)) s → u ≡ apply (clears (stored_part ys)) t →
    u ≡ apply (clears (stored_part (xs ++ ys))) s
then_cleared = then_made (λ xs. clears (stored_part xs)) stored_clears-append

pub then_before : (xs ys : Changes) (s : Cells) → inverse (sets (stored_part (xs ++ ys))) s ≡ inverse (sets (stored_part xs)) s ++ inverse (sets (stored_part ys)) s
then_before xs ys s = ap (λ (zs : Changes). inverse zs s) (stored_sets-append xs ys) ∙ map-append _ (sets (stored_part xs)) (sets (stored_part ys))

-- ---- one change more of a list

pub set_one_more : (xs : Changes) (k : ℕ) (x : Change Cell Value) (s t u : Cells) → k < length xs → x ≡ get_or xs k x → t ≡ apply (sets (take k xs)) s →
    u ≡ apply (sets (x ∷ [])) t → u ≡ apply (sets (take (k + 1) xs)) s
set_one_more xs k x s t u low is so_far made =
    then_made sets sets-append (take k xs) (x ∷ []) s t u so_far made ∙ ap (λ (zs : Changes). apply (sets zs) s) (sym (one_more xs k x low is))

pub clear_one_more : (xs : Changes) (k : ℕ) (x : Change Cell Value) (s t u : Cells) → k < length xs → x ≡ get_or xs k x → t ≡ apply (clears (take k xs)) s →
    u ≡ apply (clears (x ∷ [])) t → u ≡ apply (clears (take (k + 1) xs)) s
clear_one_more xs k x s t u low is so_far made =
    then_made clears clears-append (take k xs) (x ∷ []) s t u so_far made ∙ ap (λ (zs : Changes). apply (clears zs) s) (sym (one_more xs k x low is))

pub before_one_more : (xs : Changes) (k : ℕ) (x : Change Cell Value) (s : Cells) → k < length xs → x ≡ get_or xs k x →
    inverse (sets (take (k + 1) xs)) s ≡ inverse (sets (take k xs)) s ++ inverse (sets (x ∷ [])) s
before_one_more xs k x s low is =
    ap (λ (zs : Changes). inverse (sets zs) s) (one_more xs k x low is)
    ∙ ap (λ (zs : Changes). inverse zs s) (sets-append (take k xs) (x ∷ []))
    ∙ map-append _ (sets (take k xs)) (sets (x ∷ []))

-- ---- one run more

pub set_run_more : (rs : List ChangeRun) (k : ℕ) (r : ChangeRun) (s t u : Cells) → k < length rs → r ≡ get_or rs k r →
    t ≡ apply (sets (stored_part (all_changes (take k rs)))) s → u ≡ apply (sets (stored_part (changes_in r.form))) t →
    u ≡ apply (sets (stored_part (all_changes (take (k + 1) rs)))) s
set_run_more rs k r s t u low is so_far made =
    then_set (all_changes (take k rs)) (changes_in r.form) s t u so_far made
    ∙ ap (λ (zs : Changes). apply (sets (stored_part zs)) s) (sym (run_more rs k r low is))

pub clear_run_more : (rs : List ChangeRun) (k : ℕ) (r : ChangeRun) (s t u : Cells) → k < length rs → r ≡ get_or rs k r →
    t ≡ apply (clears (stored_part (all_changes (take k rs)))) s → u ≡ apply (clears (stored_part (changes_in r.form))) t →
    u ≡ apply (clears (stored_part (all_changes (take (k + 1) rs)))) s
clear_run_more rs k r s t u low is so_far made =
    then_cleared (all_changes (take k rs)) (changes_in r.form) s t u so_far made
    ∙ ap (λ (zs : Changes). apply (clears (stored_part zs)) s) (sym (run_more rs k r low is))

pub before_run_more : (rs : List ChangeRun) (k : ℕ) (r : ChangeRun) (s : Cells) → k < length rs → r ≡ get_or rs k r →
    inverse (sets (stored_part (all_changes (take (k + 1) rs)))) s
    ≡ inverse (sets (stored_part (all_changes (take k rs)))) s ++ inverse (sets (stored_part (changes_in r.form))) s
before_run_more rs k r s low is =
    ap (λ (zs : Changes). inverse (sets (stored_part zs)) s) (run_more rs k r low is) ∙ then_before (all_changes (take k rs)) (changes_in r.form) s

-- ---- runs that set nothing, or clear nothing

pub all_absent : (row : IndexedRow) (es : List (List ℤ × Option ℤ)) → list_all (λ e. not (is_some e.1)) es ≡ true → sets (packed_changes row es) ≡ []
all_absent row [] h = refl
all_absent row ((p, None) ∷ es) h = all_absent row es h
all_absent row ((p, Some n) ∷ es) h = cc

pub labels_absent : (row : IndexedRow) (es : List (List ℕ × Option ℤ)) → list_all (λ e. not (is_some e.1)) es ≡ true → sets (labelled_changes row es) ≡ []
labels_absent row [] h = refl
labels_absent row ((t, None) ∷ es) h = labels_absent row es h
labels_absent row ((t, Some n) ∷ es) h = cc

pub all_present : (row : IndexedRow) (es : List (List ℤ × Option ℤ)) → list_all (λ e. is_some e.1) es ≡ true → clears (packed_changes row es) ≡ []
all_present row [] h = refl
all_present row ((p, Some n) ∷ es) h = all_present row es h
all_present row ((p, None) ∷ es) h = cc

pub labels_present : (row : IndexedRow) (es : List (List ℕ × Option ℤ)) → list_all (λ e. is_some e.1) es ≡ true → clears (labelled_changes row es) ≡ []
labels_present row [] h = refl
labels_present row ((t, Some n) ∷ es) h = labels_present row es h
labels_present row ((t, None) ∷ es) h = cc

-- where the number of one more passes a test, those of all up to it do
pub number_more : (p : Option ℤ → Bool) (es : List (List ℕ × Option ℤ)) (k : ℕ) (n : Option ℤ) → slice_get (map (λ e. e.1) es) k ≡ Some n → p n ≡ true →
    list_all (λ e. p e.1) (take k es) ≡ true → list_all (λ e. p e.1) (take (k + 1) es) ≡ true
number_more p es k n at here all = rw (add-one) (up_to es k at all)
  where
    up_to : (es : List (List ℕ × Option ℤ)) (k : ℕ) → slice_get (map (λ e. e.1) es) k ≡ Some n →
        list_all (λ e. p e.1) (take k es) ≡ true → list_all (λ e. p e.1) (take (suc k) es) ≡ true
    up_to [] k at all = cc
    up_to (e ∷ es) zero at all =
        let same : e.1 ≡ n = cc in
        ap (λ b. b && true) (ap p same ∙ here)
    up_to (e ∷ es) (suc k) at all =
        let both = both_true (p e.1) (list_all (λ e. p e.1) (take k es)) all in
        ap (λ b. b && list_all (λ e. p e.1) (take (suc k) es)) both.0 ∙ up_to es k at both.1

-- changes that clear no cell set each
pub all_set : (xs : Changes) → clears xs ≡ [] → sets xs ≡ xs
all_set [] h = refl
all_set (x ∷ xs) h =
    elim x.value as (λ v. let y : Change Cell Value = record x { value = v } in clears (y ∷ xs) ≡ [] → sets (y ∷ xs) ≡ y ∷ xs) [
      | Some v ↦ λ none.
          let y : Change Cell Value = record x { value = Some v } in
          ap (λ (zs : Changes). y ∷ zs) (all_set xs none)
      | None ↦ λ none. cc
    ] h

-- what is there stays where cells are set
pub sets_stay : (xs : Changes) (s : Cells) (c : Cell) → IsSome (get s c) → IsSome (get (apply (sets xs) s) c)
sets_stay [] s c there = there
sets_stay (x ∷ xs) s c there =
    subst (λ (t : Cells). IsSome (get t c)) (sym (sets-cons x xs s)) (sets_stay xs (apply (sets (x ∷ [])) s) c (set_stays cell_order x s c there))

-- ---- cells that no change sets

changes_sets-append : (xs ys : Changes) (c : Cell) →
    changes cell_cmp (sets (stored_part (xs ++ ys))) c ≡ changes cell_cmp (sets (stored_part xs)) c || changes cell_cmp (sets (stored_part ys)) c
changes_sets-append xs ys c =
    ap (λ (zs : Changes). changes cell_cmp zs c) (stored_sets-append xs ys)
    ∙ list_any-append (λ (x : Change Cell Value). eq_by_cmp cell_cmp c x.cell) (sets (stored_part xs)) (sets (stored_part ys))

pub neither_sets : (xs ys : Changes) (c : Cell) → changes cell_cmp (sets (stored_part (xs ++ ys))) c ≡ false →
    (changes cell_cmp (sets (stored_part xs)) c ≡ false) × (changes cell_cmp (sets (stored_part ys)) c ≡ false)
neither_sets xs ys c e =
    or_neither (changes cell_cmp (sets (stored_part xs)) c) (changes cell_cmp (sets (stored_part ys)) c) (sym (changes_sets-append xs ys c) ∙ e)

pub no_run_sets : (rs : List ChangeRun) (k : ℕ) (r : ChangeRun) (c : Cell) → k < length rs → r ≡ get_or rs k r →
    changes cell_cmp (sets (stored_part (all_changes rs))) c ≡ false → changes cell_cmp (sets (stored_part (changes_in r.form))) c ≡ false
no_run_sets [] k r c low is e = absurd (omega (arith, low))
no_run_sets (q ∷ rs) zero r c low is e =
    ap (λ (x : ChangeRun). changes cell_cmp (sets (stored_part (changes_in x.form))) c) is ∙ (neither_sets (changes_in q.form) (all_changes rs) c e).0
no_run_sets (q ∷ rs) (suc k) r c low is e = no_run_sets rs k r c (omega (arith, low)) is (neither_sets (changes_in q.form) (all_changes rs) c e).1

-- ---- objects

pub objects_stored : (xs : Changes) (b : Name) → changes cell_cmp xs (Object b) ≡ changes cell_cmp (stored_part xs) (Object b)
objects_stored [] b = refl
objects_stored (x ∷ xs) b = by x.cell (objects_stored xs b)
  where
    one : Cell → Change Cell Value
    one c = record { cell = c; value = x.value }

    by : (c : Cell) → changes cell_cmp xs (Object b) ≡ changes cell_cmp (stored_part xs) (Object b) →
        changes cell_cmp (one c ∷ xs) (Object b) ≡ changes cell_cmp (stored_part (one c ∷ xs)) (Object b)
    by (Object n) rest = ap (λ p. eq_by_cmp cell_cmp (Object b) (Object n) || p) rest
    by (Shape n) rest = rest
    by (In n i) rest = rest
    by (Member n i) rest = rest
    by (Mapping n) rest = rest
    by (Use n m) rest = rest
    by (Implicit n) rest = rest
    by (Element n i) rest = rest

pub no_object : (b : Bool) → b ≡ b || false
no_object true = refl
no_object false = refl

pub unnamed : (p q : Bool) → (q ≡ true → ⊥) → p ≡ p || q
unnamed p q never = no_object p ∙ ap (λ r. p || r) (sym (not_true q never))

or_assoc : (p q r : Bool) → (p || q) || r ≡ p || (q || r)
or_assoc true q r = refl
or_assoc false q r = refl

pub object_run_more : (rs : List ChangeRun) (k : ℕ) (r : ChangeRun) (b : Name) (before so_far now : Bool) → k < length rs → r ≡ get_or rs k r →
    so_far ≡ before || changes cell_cmp (all_changes (take k rs)) (Object b) → now ≡ so_far || changes cell_cmp (changes_in r.form) (Object b) →
    now ≡ before || changes cell_cmp (all_changes (take (k + 1) rs)) (Object b)
object_run_more rs k r b before so_far now low is passed added =
    added ∙ ap (λ p. p || changes cell_cmp (changes_in r.form) (Object b)) passed
    ∙ or_assoc before (changes cell_cmp (all_changes (take k rs)) (Object b)) (changes cell_cmp (changes_in r.form) (Object b))
    ∙ ap (λ p. before || p) (sym (ap (λ (zs : Changes). changes cell_cmp zs (Object b)) (run_more rs k r low is)
    ∙ list_any-append (λ (x : Change Cell Value). eq_by_cmp cell_cmp (Object b) x.cell) (all_changes (take k rs)) (changes_in r.form)))

pub first_or : (p q : Bool) → (p || false) || q ≡ p || q
first_or true q = refl
first_or false q = refl

-- arrays that are dropped where their object changes and is none: by either list of changes of objects
pub dropped_by : (xs ys : Changes) → ((b : Name) → changes cell_cmp xs (Object b) ≡ changes cell_cmp ys (Object b)) → {P : Type 0} (was now : Name → Option P) (array : Name → Bool) →
    ((b : Name) → now b ≡ cond (changes cell_cmp xs (Object b) && not (array b)) None (was b)) →
    (b : Name) → now b ≡ cond (changes cell_cmp ys (Object b) && not (array b)) None (was b)
dropped_by xs ys same was now array dropped b = dropped b ∙ ap (λ t. cond (t && not (array b)) None (was b)) (same b)
