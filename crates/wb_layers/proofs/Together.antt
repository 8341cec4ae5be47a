-- Changes laid over others, one after another.
use Rattle.std.proofs.Common.{◌≡◌, ℕ, zero, suc, Bool, true, false, cond, not, ◌||◌, List, [], ◌∷◌, ◌++◌, map, length, get_or, take, drop, slice_set, Option, Some, None, option_map, refl, sym, ap, subst, ◌∙◌, ◌+◌, ◌<◌, append_assoc}
use Rattle.std.proofs.lemmas.Grind.{flat_map-append}
use Rattle.std.proofs.lemmas.List.{map-append, append-nil, take-append-drop, take_more}
use Rattle.std.specs.Ordering.{eq_by_cmp}
use Rattle.std.specs.Cmp.{eq_by_cmp_equiv}
use Rattle.selective_undo.specs.declared.Change.{Change}
use Rattle.selective_undo.specs.Changes.{changes, AllOnce}
use Rattle.selective_undo.specs.Together.{left_in, others, together}
use Rattle.selective_undo.proofs.AllOrNothing.{tied}
use Rattle.selective_undo.proofs.Locality.{or_neither}
use Rattle.selective_undo.proofs.Together.{changes-together}
use Rattle.wb_cells.specs.declared.cells.cell.Cell.{Cell}
use Rattle.wb_cells.specs.declared.cells.value.Value.{Value}
use Rattle.wb_cells.specs.declared.changes.run.ChangeRun.{ChangeRun}
use Rattle.wb_cells.specs.Cells.{Changes, cell_cmp, cell_order}
use Rattle.wb_cells.specs.Runs.{all_changes, changes_in}
use Rattle.wb_layers.specs.Places.{place_in}
use Rattle.wb_layers.proofs.Placed.{left_in-keeps, place_some}

-- changes, with what others leave in their cells
abbrev over : Changes → Changes → Changes
over ys xs = map (λ x. record { cell = x.cell; value = left_in cell_cmp ys x.cell x.value }) xs

-- a change of another cell leaves them as they are
kept : (xs : Changes) (y : Change Cell Value) → changes cell_cmp xs y.cell ≡ false → over (y ∷ []) xs ≡ xs
kept [] y e = refl
kept (x ∷ xs) y e =
    let parts = or_neither (eq_by_cmp cell_cmp y.cell x.cell) (changes cell_cmp xs y.cell) e in
    rw ((eq_by_cmp_equiv cell_order.total).symm x.cell y.cell ∙ parts.0) (ap (λ zs. x ∷ zs) (kept xs y parts.1))

pub together_new : (xs : Changes) (y : Change Cell Value) → changes cell_cmp xs y.cell ≡ false → together cell_cmp xs (y ∷ []) ≡ xs ++ y ∷ []
together_new xs y e = ap (λ zs. zs ++ others cell_cmp xs (y ∷ [])) (kept xs y e) ∙ ap (λ b. xs ++ cond (not b) (y ∷ []) []) e

set_at : (xs : Changes) (y : Change Cell Value) (p : ℕ) → AllOnce cell_cmp xs → place_in xs y.cell ≡ Some p → over (y ∷ []) xs ≡ slice_set xs p y
set_at [] y p once e = cc
set_at (x ∷ xs) y p once e =
    elim (eq_by_cmp cell_cmp y.cell x.cell) as (λ b. eq_by_cmp cell_cmp y.cell x.cell ≡ b → cond b (Some 0) (option_map suc (place_in xs y.cell)) ≡ Some p →
    over (y ∷ []) (x ∷ xs) ≡ slice_set (x ∷ xs) p y) [
      | true ↦ λ same h. here p same h
      | false ↦ λ other h. behind (place_in xs y.cell) (λ q is. set_at xs y q once.1 is) refl other h
    ] refl e
  where
    turned : eq_by_cmp cell_cmp x.cell y.cell ≡ eq_by_cmp cell_cmp y.cell x.cell
    turned = (eq_by_cmp_equiv cell_order.total).symm x.cell y.cell

    here : (p : ℕ) → eq_by_cmp cell_cmp y.cell x.cell ≡ true → Some 0 ≡ Some p → over (y ∷ []) (x ∷ xs) ≡ slice_set (x ∷ xs) p y
    here zero same h =
        let one : y.cell ≡ x.cell = tied cell_order y.cell x.cell same in
        let rest = kept xs y (ap (changes cell_cmp xs) one ∙ once.0) in
        let first : over (y ∷ []) (x ∷ []) ≡ y ∷ [] = rw (turned ∙ same) (ap (λ d. record { cell = d; value = y.value } ∷ []) (sym one)) in
        ap (λ zs. zs ++ over (y ∷ []) xs) first ∙ ap (λ zs. y ∷ zs) rest
    here (suc p) same h = cc

    behind : (o : Option ℕ) → ((q : ℕ) → place_in xs y.cell ≡ Some q → over (y ∷ []) xs ≡ slice_set xs q y) → place_in xs y.cell ≡ o →
        eq_by_cmp cell_cmp y.cell x.cell ≡ false → option_map suc o ≡ Some p → over (y ∷ []) (x ∷ xs) ≡ slice_set (x ∷ xs) p y
    behind None more is other h = cc
    behind (Some q) more is other h =
        let same : suc q ≡ p = cc in
        rw (← same, turned ∙ other) (ap (λ zs. x ∷ zs) (more q is))

pub together_at : (xs : Changes) (y : Change Cell Value) (p : ℕ) → AllOnce cell_cmp xs → place_in xs y.cell ≡ Some p →
    together cell_cmp xs (y ∷ []) ≡ slice_set xs p y
together_at xs y p once e =
    ap (λ b. over (y ∷ []) xs ++ cond (not b) (y ∷ []) []) (place_some xs y.cell p e) ∙ append-nil (over (y ∷ []) xs) ∙ set_at xs y p once e

pub together_nil : (xs : Changes) → together cell_cmp xs [] ≡ xs
together_nil [] = refl
together_nil (x ∷ xs) = ap (λ zs. x ∷ zs) (together_nil xs)

over_over : (xs ys : Changes) (y : Change Cell Value) → over ys (over (y ∷ []) xs) ≡ over (y ∷ ys) xs
over_over [] ys y = refl
over_over (x ∷ xs) ys y = ap (λ zs. record { cell = x.cell; value = left_in cell_cmp (y ∷ ys) x.cell x.value } ∷ zs) (over_over xs ys y)

-- the others are the same, where none of them is of the cell
others_apart : (xs ys : Changes) (y : Change Cell Value) → changes cell_cmp ys y.cell ≡ false →
    others cell_cmp (together cell_cmp xs (y ∷ [])) ys ≡ others cell_cmp xs ys
others_apart xs [] y e = refl
others_apart xs (z ∷ ys) y e =
    let parts = or_neither (eq_by_cmp cell_cmp y.cell z.cell) (changes cell_cmp ys y.cell) e in
    let apart : eq_by_cmp cell_cmp z.cell y.cell ≡ false = (eq_by_cmp_equiv cell_order.total).symm z.cell y.cell ∙ parts.0 in
    let as_before : changes cell_cmp (together cell_cmp xs (y ∷ [])) z.cell ≡ changes cell_cmp xs z.cell =
    changes-together cell_order xs (y ∷ []) z.cell ∙ ap (λ b. changes cell_cmp xs z.cell || (b || false)) apart ∙ or_no (changes cell_cmp xs z.cell) in
    rw as_before (ap (λ zs. cond (not (changes cell_cmp xs z.cell)) (z ∷ zs) zs) (others_apart xs ys y parts.1))
  where
    or_no : (b : Bool) → b || false ≡ b
    or_no true = refl
    or_no false = refl

pub together_cons : (xs ys : Changes) (y : Change Cell Value) → changes cell_cmp ys y.cell ≡ false →
    together cell_cmp (together cell_cmp xs (y ∷ [])) ys ≡ together cell_cmp xs (y ∷ ys)
together_cons xs ys y e =
    ap (λ zs. over ys (together cell_cmp xs (y ∷ [])) ++ zs) (others_apart xs ys y e)
    ∙ ap (λ zs. zs ++ others cell_cmp xs ys)
    (map-append (λ x. record { cell = x.cell; value = left_in cell_cmp ys x.cell x.value }) (over (y ∷ []) xs) (others cell_cmp xs (y ∷ []))
    ∙ ap (λ zs. zs ++ over ys (others cell_cmp xs (y ∷ []))) (over_over xs ys y))
    ∙ append_assoc (over (y ∷ ys) xs) (over ys (others cell_cmp xs (y ∷ []))) (others cell_cmp xs ys)
    ∙ ap (λ zs. over (y ∷ ys) xs ++ zs)
    (elim (changes cell_cmp xs y.cell) as (λ b. over ys (cond (not b) (y ∷ []) []) ++ others cell_cmp xs ys ≡ cond (not b) (y ∷ others cell_cmp xs ys) (others cell_cmp xs ys)) [
      | true ↦ refl
      | false ↦ ap (λ v. record { cell = y.cell; value = v } ∷ others cell_cmp xs ys) (left_in-keeps ys y.cell y.value e)
    ])

-- where a list changes no cell, neither does a part of it
pub none_of : (ys zs : Changes) (c : Cell) → changes cell_cmp (ys ++ zs) c ≡ false → (changes cell_cmp ys c ≡ false) × (changes cell_cmp zs c ≡ false)
none_of [] zs c e = (refl, e)
none_of (y ∷ ys) zs c e =
    let parts = or_neither (eq_by_cmp cell_cmp c y.cell) (changes cell_cmp (ys ++ zs) c) e in
    let rest = none_of ys zs c parts.1 in
    (rw (parts.0, rest.0) refl, rest.1)

pub once_parts : (ys zs : Changes) → AllOnce cell_cmp (ys ++ zs) → AllOnce cell_cmp ys × AllOnce cell_cmp zs
once_parts [] zs once = (tt, once)
once_parts (y ∷ ys) zs once = let rest = once_parts ys zs once.1 in (((none_of ys zs y.cell once.0).0, rest.0), rest.1)

pub together_append : (xs ys zs : Changes) → AllOnce cell_cmp (ys ++ zs) →
    together cell_cmp (together cell_cmp xs ys) zs ≡ together cell_cmp xs (ys ++ zs)
together_append xs [] zs once = ap (λ q. together cell_cmp q zs) (together_nil xs)
together_append xs (y ∷ ys) zs once =
    ap (λ q. together cell_cmp q zs) (sym (together_cons xs ys y (none_of ys zs y.cell once.0).0))
    ∙ together_append (together cell_cmp xs (y ∷ [])) ys zs once.1
    ∙ together_cons xs (ys ++ zs) y once.0

-- the next of changes that are all to different cells is to none of those before it
pub next_new : (xs : Changes) (x : Change Cell Value) (ys : Changes) → AllOnce cell_cmp (xs ++ (x ∷ ys)) → changes cell_cmp xs x.cell ≡ false
next_new [] x ys h = refl
next_new (y ∷ xs) x ys h =
    let apart = none_of xs (x ∷ ys) y.cell h.0 in
    let other = or_neither (eq_by_cmp cell_cmp y.cell x.cell) (changes cell_cmp ys y.cell) apart.1 in
    rw ((eq_by_cmp_equiv cell_order.total).symm x.cell y.cell ∙ other.0, next_new xs x ys h.1) refl

-- ---- a loop over changes, and one over runs of them

pub front_more : {A : Type 0} (ys : List A) (i : ℕ) (d : A) → i < length ys → d ≡ get_or ys i d → take (i + 1) ys ≡ take i ys ++ d ∷ []
front_more ys i d low is = take_more ys i d low ∙ ap (λ x. take i ys ++ x ∷ []) (sym is)

pub once_take : (ys : Changes) (k : ℕ) → AllOnce cell_cmp ys → AllOnce cell_cmp (take k ys)
once_take ys k once = (once_parts (take k ys) (drop k ys) (subst (λ (zs : Changes). AllOnce cell_cmp zs) (sym (take-append-drop k ys)) once)).0

-- one more change of a list is laid
pub laid_more : (xs zs ys ws : Changes) (i : ℕ) (y : Change Cell Value) → AllOnce cell_cmp ys → i < length ys → y ≡ get_or ys i y →
    zs ≡ together cell_cmp xs (take i ys) → ws ≡ together cell_cmp zs (y ∷ []) → ws ≡ together cell_cmp xs (take (i + 1) ys)
laid_more xs zs ys ws i y once low is laid one =
    let more = front_more ys i y low is in
    one ∙ ap (λ q. together cell_cmp q (y ∷ [])) laid
    ∙ together_append xs (take i ys) (y ∷ []) (subst (λ (q : Changes). AllOnce cell_cmp q) more (once_take ys (i + 1) once))
    ∙ ap (together cell_cmp xs) (sym more)

runs_more : (rs : List ChangeRun) (k : ℕ) (r : ChangeRun) → k < length rs → r ≡ get_or rs k r →
    all_changes (take (k + 1) rs) ≡ all_changes (take k rs) ++ changes_in r.form
runs_more rs k r low is =
    ap all_changes (front_more rs k r low is)
    ∙ flat_map-append (λ (x : ChangeRun). changes_in x.form) (take k rs) (r ∷ [])
    ∙ ap (λ ys. all_changes (take k rs) ++ ys) (append-nil (changes_in r.form))

once_runs : (rs : List ChangeRun) (k : ℕ) → AllOnce cell_cmp (all_changes rs) → AllOnce cell_cmp (all_changes (take k rs))
once_runs rs k once =
    let whole : all_changes (take k rs) ++ all_changes (drop k rs) ≡ all_changes rs =
    sym (flat_map-append (λ (x : ChangeRun). changes_in x.form) (take k rs) (drop k rs)) ∙ ap all_changes (take-append-drop k rs) in
    (once_parts (all_changes (take k rs)) (all_changes (drop k rs)) (subst (λ (zs : Changes). AllOnce cell_cmp zs) (sym whole) once)).0

once_next : (rs : List ChangeRun) (k : ℕ) (r : ChangeRun) → AllOnce cell_cmp (all_changes rs) → k < length rs → r ≡ get_or rs k r →
    AllOnce cell_cmp (all_changes (take k rs) ++ changes_in r.form)
once_next rs k r once low is = subst (λ (q : Changes). AllOnce cell_cmp q) (runs_more rs k r low is) (once_runs rs (k + 1) once)

pub once_run : (rs : List ChangeRun) (k : ℕ) (r : ChangeRun) → AllOnce cell_cmp (all_changes rs) → k < length rs → r ≡ get_or rs k r →
    AllOnce cell_cmp (changes_in r.form)
once_run rs k r once low is = (once_parts (all_changes (take k rs)) (changes_in r.form) (once_next rs k r once low is)).1

-- the changes of one more run are laid
pub run_laid : (xs zs ws : Changes) (rs : List ChangeRun) (k : ℕ) (r : ChangeRun) → AllOnce cell_cmp (all_changes rs) → k < length rs → r ≡ get_or rs k r →
    zs ≡ together cell_cmp xs (all_changes (take k rs)) → ws ≡ together cell_cmp zs (changes_in r.form) →
    ws ≡ together cell_cmp xs (all_changes (take (k + 1) rs))
run_laid xs zs ws rs k r once low is laid one =
    one ∙ ap (λ q. together cell_cmp q (changes_in r.form)) laid
    ∙ together_append xs (all_changes (take k rs)) (changes_in r.form) (once_next rs k r once low is)
    ∙ ap (together cell_cmp xs) (sym (runs_more rs k r low is))

-- the next of changes is to none of the cells of those before it
pub fresh_next : (ys : Changes) (i : ℕ) (y : Change Cell Value) → AllOnce cell_cmp ys → i < length ys → y ≡ get_or ys i y →
    changes cell_cmp (take i ys) y.cell ≡ false
fresh_next ys i y once low is =
    next_new (take i ys) y [] (subst (λ (q : Changes). AllOnce cell_cmp q) (front_more ys i y low is) (once_take ys (i + 1) once))
