-- Changes that stand in runs, and changes of the cells of one row.
use Rattle.std.proofs.Common.{◌≡◌, ℕ, zero, suc, length-append, ◌+◌, ◌<◌, ◌≤◌, ℤ, Bool, true, false}
use Rattle.std.proofs.Common.{cond, List, [], ◌∷◌, ◌++◌, length, map, take, get_or, Option, Some, None, append_assoc}
use Rattle.std.proofs.Common.{Result, Ok, Err, ◌||◌, IsSome, arith, true≢false, filter, refl, sym, ap, subst, ◌∙◌}
use Rattle.std.specs.List.{list_all, list_any, count_by}
use Rattle.std.specs.Prelude.{OnOk}
use Rattle.std.specs.Option.{option_map}
use Rattle.std.specs.Ordering.{eq_by_cmp}
use Rattle.std.proofs.lemmas.List.Folds.{list_any-append}
use Rattle.std.proofs.lemmas.List.Elements.{filter-append}
use Rattle.std.proofs.lemmas.List.Recursion.{is_count_by}
use Rattle.std.proofs.lemmas.List.Sums.{count_by-le-length}
use Rattle.std.proofs.lemmas.List.{take_more, take_all, append-nil}
use Rattle.selective_undo.specs.declared.Change.{Change}
use Rattle.selective_undo.specs.Changes.{changes}
use Rattle.wb_cells.specs.declared.changes.run.ChangeRun.{ChangeRun}
use Rattle.wb_cells.specs.declared.cells.cell.Cell.{Cell}
use Rattle.wb_cells.specs.declared.cells.cell.Cell.TheVariants.{Object, Element}
use Rattle.wb_cells.specs.declared.cells.value.Value.{Value}
use Rattle.wb_cells.specs.declared.changes.row.IndexedRow.{IndexedRow}
use Rattle.wb_cells.specs.declared.changes.row.IndexedRow.TheVariants.{Inside, Members, Elements}
use Rattle.wb_cells.specs.declared.changes.run.RunForm.{RunForm}
use Rattle.wb_cells.specs.declared.values.index.Index.{Index}
use Rattle.wb_cells.specs.Cells.{Name, Changes, cell_cmp, is_same_name}
use Rattle.wb_cells.specs.Runs.{cell_of, change_at, packed_changes, labelled_at, labelled_changes, changes_in, in_first, all_changes}
use Rattle.wb_cells.specs.declared.values.index.Index.TheVariants.{Point, Text}
use Rattle.wb_cells.proofs.Runs.{all-append}
use Rattle.wb_elements.specs.Entries.{row_changes}
use Rattle.wb_book.specs.Groups.{Group, LeadTo, leaves, group_in, changes_in as changes_in_groups}
use Rattle.wb_elements.specs.Piecewise.Marked.{as_changes}
use Rattle.wb_book.proofs.Leads.{apart_leads, same_leads, element_leads, other_array}
use Rattle.wb_book.proofs.Written.{one_name}

-- the changes up to and with a run
pub run_more : (rs : List ChangeRun) (k : ℕ) (r : ChangeRun) → k < length rs → r ≡ get_or rs k r →
    all_changes (take (k + 1) rs) ≡ all_changes (take k rs) ++ changes_in r.form
run_more rs k r low is =
    ap all_changes (take_more rs k r low ∙ ap (λ (x : ChangeRun). take k rs ++ x ∷ []) (sym is))
    ∙ all-append (take k rs) (r ∷ [])
    ∙ ap (λ ys. all_changes (take k rs) ++ ys) (append-nil (changes_in r.form))

-- ---- a test that gives the same for all

module _ {X Y : Type 0} (p : X → Bool) (g : Y → X) where
  pub all_kept : ((y : Y) → p (g y) ≡ true) → (ys : List Y) → filter p (map g ys) ≡ map g ys
  all_kept all [] = refl
  all_kept all (y ∷ ys) = rw (all y) (ap (λ xs. g y ∷ xs) (all_kept all ys))

  pub none_kept : ((y : Y) → p (g y) ≡ false) → (ys : List Y) → filter p (map g ys) ≡ []
  none_kept none [] = refl
  none_kept none (y ∷ ys) = rw (none y) (none_kept none ys)

  pub all_pass : ((y : Y) → p (g y) ≡ true) → (ys : List Y) → list_all p (map g ys) ≡ true
  all_pass all [] = refl
  all_pass all (y ∷ ys) = rw (all y) (all_pass all ys)

  pub none_pass : ((y : Y) → p (g y) ≡ false) → (ys : List Y) → list_any p (map g ys) ≡ false
  none_pass none [] = refl
  none_pass none (y ∷ ys) = rw (none y) (none_pass none ys)

-- ---- where changes of elements lead

pub apart_all : {Y : Type 0} (g : Y → Change Cell Value) (ys : List Y) (delta : Changes) (a : Name) (xs : Group) →
    ((y : Y) (i : Index) → eq_by_cmp cell_cmp (Element a i) (g y).cell ≡ false) → LeadTo delta a xs → LeadTo (delta ++ map g ys) a xs
apart_all g [] delta a xs apart lead = subst (λ (ds : Changes). LeadTo ds a xs) (sym (append-nil delta)) lead
apart_all g (y ∷ ys) delta a xs apart lead =
    subst (λ (ds : Changes). LeadTo ds a xs) (append_assoc delta (g y ∷ []) (map g ys))
    (apart_all g ys (delta ++ g y ∷ []) a xs apart (apart_leads delta a xs (g y) (apart y) lead))

own_leads : {I : Type 0} (f : I → Index) (a : Name) (es : List (I × Option ℤ)) (delta : Changes) (xs : Group) → LeadTo delta a xs →
    LeadTo (delta ++ row_changes f (Elements a) es) a (xs ++ as_changes f es)
own_leads f a [] delta xs lead =
    subst (λ (ds : Changes). LeadTo ds a (xs ++ [])) (sym (append-nil delta))
    (subst (λ (ys : Group). LeadTo delta a ys) (sym (append-nil xs)) lead)
own_leads f a (e ∷ es) delta xs lead =
    let x : Change Cell Value = record { cell = Element a (f e.0); value = option_map _ e.1 } in
    subst (λ (ds : Changes). LeadTo ds a (xs ++ as_changes f (e ∷ es))) (append_assoc delta (x ∷ []) (row_changes f (Elements a) es))
    (subst (λ (ys : Group). LeadTo ((delta ++ x ∷ []) ++ row_changes f (Elements a) es) a ys) (append_assoc xs ((f e.0, e.1) ∷ []) (as_changes f es))
    (own_leads f a es (delta ++ x ∷ []) (xs ++ (f e.0, e.1) ∷ []) (element_leads delta a xs x (f e.0) e.1 refl refl lead)))

pub row_leads : {I : Type 0} (f : I → Index) (a : Name) (es : List (I × Option ℤ)) (delta : Changes) (b : Name) (xs : Group) → LeadTo delta b xs →
    LeadTo (delta ++ row_changes f (Elements a) es) b (cond (is_same_name a b) (xs ++ as_changes f es) xs)
row_leads f a es delta b xs lead = by (is_same_name a b) refl
  where
    by : (t : Bool) → is_same_name a b ≡ t → LeadTo (delta ++ row_changes f (Elements a) es) b (cond t (xs ++ as_changes f es) xs)
    by true e = subst (λ (n : Name). LeadTo (delta ++ row_changes f (Elements n) es) b (xs ++ as_changes f es)) (sym (one_name a b e))
        (own_leads f b es delta xs lead)
    by false e = apart_all _ es delta b xs (λ y i. other_array b a i (f y.0) e) lead

-- ---- a run of changes of one row

module _ (f : RunForm) (row : IndexedRow) (es : List (List ℤ × Option ℤ)) (is : changes_in f ≡ packed_changes row es) where
  module _ (p : Change Cell Value → Bool) (b : Bool) (same : (e : List ℤ × Option ℤ) → p (change_at row e) ≡ b) where
    pub row_kept : b ≡ true → filter p (changes_in f) ≡ changes_in f
    row_kept h = ap (filter p) is ∙ all_kept p (change_at row) (λ e. same e ∙ h) es ∙ sym is

    pub row_dropped : b ≡ false → filter p (changes_in f) ≡ []
    row_dropped h = ap (filter p) is ∙ none_kept p (change_at row) (λ e. same e ∙ h) es

-- the same of changes at labels
module _ (f : RunForm) (row : IndexedRow) (es : List (List ℕ × Option ℤ)) (is : changes_in f ≡ labelled_changes row es) where
  module _ (p : Change Cell Value → Bool) (b : Bool) (same : (e : List ℕ × Option ℤ) → p (labelled_at row e) ≡ b) where
    pub labels_kept : b ≡ true → filter p (changes_in f) ≡ changes_in f
    labels_kept h = ap (filter p) is ∙ all_kept p (labelled_at row) (λ e. same e ∙ h) es ∙ sym is

    pub labels_dropped : b ≡ false → filter p (changes_in f) ≡ []
    labels_dropped h = ap (filter p) is ∙ none_kept p (labelled_at row) (λ e. same e ∙ h) es

pub leaves_row : (stored : Cell → Option Value) (row : IndexedRow) (i : Index) (v : Option Value) → leaves stored (record { cell = cell_of row i; value = v }) ≡ true
leaves_row stored (Inside d) i v = refl
leaves_row stored (Members d) i v = refl
leaves_row stored (Elements a) i v = refl

pub no_object : (row : IndexedRow) (n : Name) (i : Index) → eq_by_cmp cell_cmp (Object n) (cell_of row i) ≡ false
no_object (Inside d) n i = refl
no_object (Members d) n i = refl
no_object (Elements a) n i = refl

pub rows_lead : {I : Type 0} (f : I → Index) (a : Name) (es : List (I × Option ℤ)) (before : Changes) (gs named hs : List (Name × Group)) →
    ((b : Name) → changes_in_groups named b ≡ changes_in_groups gs b) →
    ((b : Name) → changes_in_groups hs b ≡ cond (is_same_name a b) (changes_in_groups named b ++ as_changes f es) (changes_in_groups named b)) →
    ((b : Name) → LeadTo before b (changes_in_groups gs b)) → (b : Name) → LeadTo (before ++ row_changes f (Elements a) es) b (changes_in_groups hs b)
rows_lead f a es before gs named hs same made lead b =
    subst (λ (ys : Group). LeadTo (before ++ row_changes f (Elements a) es) b ys) (sym (made b))
    (row_leads f a es before b (changes_in_groups named b) (same_leads before gs named same lead b))

pub never_named : (form : RunForm) (row : IndexedRow) (es : List (List ℤ × Option ℤ)) (n : Name) → changes_in form ≡ packed_changes row es →
    changes cell_cmp (changes_in form) (Object n) ≡ true → ⊥
never_named form row es n is e =
    let none : changes cell_cmp (packed_changes row es) (Object n) ≡ false =
    none_pass (λ (x : Change Cell Value). eq_by_cmp cell_cmp (Object n) x.cell) (change_at row) (λ y. no_object row n (Point y.0)) es in
    let all : changes cell_cmp (packed_changes row es) (Object n) ≡ true = ap (λ ys. changes cell_cmp ys (Object n)) (sym is) ∙ e in
    true≢false (sym all ∙ none)

pub never_labelled : (form : RunForm) (row : IndexedRow) (es : List (List ℕ × Option ℤ)) (n : Name) → changes_in form ≡ labelled_changes row es →
    changes cell_cmp (changes_in form) (Object n) ≡ true → ⊥
never_labelled form row es n is e =
    let none : changes cell_cmp (labelled_changes row es) (Object n) ≡ false =
    none_pass (λ (x : Change Cell Value). eq_by_cmp cell_cmp (Object n) x.cell) (labelled_at row) (λ y. no_object row n (Text y.0)) es in
    let all : changes cell_cmp (labelled_changes row es) (Object n) ≡ true = ap (λ ys. changes cell_cmp ys (Object n)) (sym is) ∙ e in
    true≢false (sym all ∙ none)

pub on_ok_ever : {T E P : Type 0} (r : Result T E) → P → OnOk r P
on_ok_ever (Ok x) p = p
on_ok_ever (Err e) p = tt

-- ---- the first change of a list and its runs

module _ (delta : Changes) (first : Option (Change Cell Value)) (rs : List ChangeRun) (all : delta ≡ in_first first ++ all_changes rs) where
  pub begins : (x : Change Cell Value) → first ≡ Some x → delta ≡ x ∷ all_changes rs
  begins x is = all ∙ ap (λ (o : Option (Change Cell Value)). in_first o ++ all_changes rs) is

  pub only_runs : ((x : Change Cell Value) → first ≡ Some x → ⊥) → delta ≡ all_changes rs
  only_runs none = all ∙ ap (λ (o : Option (Change Cell Value)). in_first o ++ all_changes rs) (by first none)
    where
      by : (o : Option (Change Cell Value)) → ((x : Change Cell Value) → o ≡ Some x → ⊥) → o ≡ None
      by None gone = refl
      by (Some x) gone = absurd (gone x refl)

pub all_runs : (rs : List ChangeRun) (k : ℕ) → length rs ≤ k → all_changes (take k rs) ≡ all_changes rs
all_runs rs k high = ap all_changes (take_all k rs high)

pub object_more : (xs ys zs : Changes) (b : Name) (gs hs : List (Name × Group)) → zs ≡ xs ++ ys → (IsSome (group_in gs b) → IsSome (group_in hs b)) →
    (changes cell_cmp xs (Object b) ≡ true → IsSome (group_in gs b)) → (changes cell_cmp ys (Object b) ≡ true → IsSome (group_in hs b)) →
    changes cell_cmp zs (Object b) ≡ true → IsSome (group_in hs b)
object_more xs ys zs b gs hs is stays old now e =
    by (changes cell_cmp xs (Object b)) refl
    (sym (ap (λ (us : Changes). changes cell_cmp us (Object b)) is
    ∙ list_any-append (λ (x : Change Cell Value). eq_by_cmp cell_cmp (Object b) x.cell) xs ys) ∙ e)
  where
    by : (t : Bool) → changes cell_cmp xs (Object b) ≡ t → t || changes cell_cmp ys (Object b) ≡ true → IsSome (group_in hs b)
    by true f h = stays (old f)
    by false f h = now h
