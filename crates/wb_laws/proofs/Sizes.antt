-- Changes that name each cell once count the cells that they set.
use Rattle.std.proofs.Common.{◌≡◌, ◌↔◌, zero, suc, Bool, true, false, cond, ◌&&◌, ◌||◌, List, [], ◌∷◌, map, Some, slice_get, refl, sym, ap, ◌∙◌}
use Rattle.std.proofs.lemmas.List.{length-map}
use Rattle.std.proofs.lemmas.Option.{slice_get_within, get_or_from_slice_get}
use Rattle.std.proofs.lemmas.Map.Views.{Contains-from_any, list_any-from_Contains}
use Rattle.std.specs.Cmp.{eq_by_cmp_equiv}
use Rattle.std.specs.List.{Contains, filter, list_any}
use Rattle.std.specs.Ordering.{eq_by_cmp}
use Rattle.selective_undo.specs.declared.Change.{Change}
use Rattle.selective_undo.specs.Changes.{changes, AllOnce}
use Rattle.wb_range.specs.Domain.{IsListedOnce}
use Rattle.wb_cells.specs.declared.cells.cell.Cell.{Cell}
use Rattle.wb_cells.specs.declared.cells.value.Value.{Value}
use Rattle.wb_cells.specs.Cells.{Changes, cell_cmp, cell_cmp_total, cell_order, is_counted, count_of}
use Rattle.wb_reshape.proofs.Gets.{same_key}
use Rattle.wb_laws.specs.Sizes.{HasSize}

-- ---- lists

pub once_more : {X : Type 0} (x : X) (xs : List X) → (Contains xs x → ⊥) → IsListedOnce xs → IsListedOnce (x ∷ xs)
once_more x xs new once zero zero y e f = refl
once_more x xs new once zero (suc q) y e f =
    let g : slice_get xs q ≡ Some x = f ∙ sym e in absurd (new (q, slice_get_within xs q x g, get_or_from_slice_get xs q x x g))
once_more x xs new once (suc p) zero y e f =
    let g : slice_get xs p ≡ Some x = e ∙ sym f in absurd (new (p, slice_get_within xs p x g, get_or_from_slice_get xs p x x g))
once_more x xs new once (suc p) (suc q) y e f = ap (λ n. suc n) (once p q y e f)

-- ---- cells

-- those that the changes set, the cells `In` aside
abbrev cells_of : Changes → List Cell
cells_of xs = map (λ x. x.cell) (filter (λ x. is_counted x.cell) xs)

abbrev is_one : List Cell → Cell → Bool
is_one cs c = list_any (eq_by_cmp cell_cmp c) cs

is_one-same : (c d : Cell) → eq_by_cmp cell_cmp c d ≡ true → c ≡ d
is_one-same = same_key cell_order

first_counts : (same more counts : Bool) → (same ≡ true → counts ≡ true) → same || (more && counts) ≡ (same || more) && counts
first_counts true more counts h = sym (h refl)
first_counts false more counts h = refl

first_aside : (same more counts : Bool) → (same ≡ true → counts ≡ false) → (more && counts) ≡ (same || more) && counts
first_aside false more counts h = refl
first_aside true true counts h = refl
first_aside true false counts h = sym (h refl)

one_more : (x : Change Cell Value) (xs : Changes) (c : Cell) (b : Bool) → is_counted x.cell ≡ b →
    is_one (cells_of xs) c ≡ (changes cell_cmp xs c && is_counted c) →
    is_one (map (λ y. y.cell) (cond b (x ∷ filter (λ y. is_counted y.cell) xs) (filter (λ y. is_counted y.cell) xs))) c
    ≡ (changes cell_cmp (x ∷ xs) c && is_counted c)
one_more x xs c true counts rest =
    ap (λ r. eq_by_cmp cell_cmp c x.cell || r) rest
    ∙ first_counts (eq_by_cmp cell_cmp c x.cell) (changes cell_cmp xs c) (is_counted c) (λ same. ap is_counted (is_one-same c x.cell same) ∙ counts)
one_more x xs c false counts rest =
    rest ∙ first_aside (eq_by_cmp cell_cmp c x.cell) (changes cell_cmp xs c) (is_counted c) (λ same. ap is_counted (is_one-same c x.cell same) ∙ counts)

-- a cell is one of them where the changes set it and it counts
set_and_counted : (xs : Changes) (c : Cell) → is_one (cells_of xs) c ≡ (changes cell_cmp xs c && is_counted c)
set_and_counted [] c = refl
set_and_counted (x ∷ xs) c = one_more x xs c (is_counted x.cell) refl (set_and_counted xs c)

both_are : (xs : Changes) (c : Cell) → Contains (cells_of xs) c ↔ (changes cell_cmp xs c && is_counted c ≡ true)
both_are xs c = (
  λ there. sym (set_and_counted xs c) ∙ list_any-from_Contains (eq_by_cmp_equiv cell_cmp_total) c (cells_of xs) there,
  λ set. Contains-from_any is_one-same c (cells_of xs) (set_and_counted xs c ∙ set),
)

once_first : (x : Change Cell Value) (xs : Changes) (b : Bool) → changes cell_cmp xs x.cell ≡ false → IsListedOnce (cells_of xs) →
    IsListedOnce (map (λ y. y.cell) (cond b (x ∷ filter (λ y. is_counted y.cell) xs) (filter (λ y. is_counted y.cell) xs)))
once_first x xs false new once = once
once_first x xs true new once = once_more x.cell (cells_of xs) (λ there.
    let set : (changes cell_cmp xs x.cell && is_counted x.cell) ≡ true = (both_are xs x.cell).0 there in
    let no : (false && is_counted x.cell) ≡ true = ap (λ b. b && is_counted x.cell) (sym new) ∙ set in cc) once

none_once : {X : Type 0} → IsListedOnce {X = X} []
none_once zero q x e f = cc
none_once (suc p) q x e f = cc

each_once : (xs : Changes) → AllOnce cell_cmp xs → IsListedOnce (cells_of xs)
each_once [] once = none_once
each_once (x ∷ xs) once = once_first x xs (is_counted x.cell) once.0 (each_once xs once.1)

pub size_of_changes : (xs : Changes) → AllOnce cell_cmp xs → HasSize (λ c. changes cell_cmp xs c && is_counted c) (count_of xs)
size_of_changes xs once = (cells_of xs, each_once xs once, both_are xs, sym (length-map (filter (λ x. is_counted x.cell) xs) (λ (x : Change Cell Value). x.cell)))
