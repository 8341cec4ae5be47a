-- What a map of the cells shows, and how its methods change that.
use Rattle.std.proofs.Common.{◌≡◌, Result, Ok, Err, OnOk, OnErr, cond, true, false, ◌||◌, List, [], ◌∷◌, ◌++◌, refl, ap, ◌∙◌, Some}
use Rattle.std.specs.Ordering.{eq_by_cmp}
use Rattle.std.specs.Cmp.{eq_by_cmp_equiv}
use Rattle.std.specs.Map.{lookup}
use Rattle.std.specs.BTreeMap.{BTreeMap, is_at}
use Rattle.std.specs.BTreeMap as tree
use Rattle.std.specs.FinMap.{get, find, get-from_entries}
use Rattle.selective_undo.specs.declared.Change.{Change}
use Rattle.selective_undo.specs.Changes.{changes, AllOnce}
use Rattle.selective_undo.proofs.Locality.{or_neither}
use Rattle.wb_cells.specs.declared.cells.cell.Cell.{Cell}
use Rattle.wb_cells.specs.declared.cells.value.Value.{Value}
use Rattle.wb_cells.specs.Cells.{Stored, cell_cmp, cell_order, state_of, map_state, Changes}

pub find-lookup : (es : List (Cell × Value)) (q : Cell) → find cell_cmp q es ≡ lookup (is_at (cell_cmp q)) es
find-lookup [] q = refl
find-lookup (e ∷ es) q = ap (cond (eq_by_cmp cell_cmp q e.0) (Some e.1)) (find-lookup es q)

pub get-state_of : (m : Stored) (q : Cell) → get (state_of m) q ≡ lookup (is_at (cell_cmp q)) m.entries
get-state_of m q = get-from_entries cell_order.total m.entries q ∙ find-lookup m.entries q

pub get-map_state : (m : BTreeMap Cell Value) (q : Cell) → get (map_state m) q ≡ tree.get cell_cmp m q
get-map_state m q = get-from_entries cell_order.total m.entries q ∙ find-lookup m.entries q

-- a change of a cell that is not there yet
pub last_of : (xs : Changes) (x : Change Cell Value) (c : Cell) → changes cell_cmp (xs ++ x ∷ []) c ≡ changes cell_cmp xs c || eq_by_cmp cell_cmp c x.cell
last_of [] x c = elim (eq_by_cmp cell_cmp c x.cell) as (λ b. b || false ≡ b) [ true ↦ refl | false ↦ refl ]
last_of (y ∷ xs) x c =
    ap (λ b. eq_by_cmp cell_cmp c y.cell || b) (last_of xs x c)
    ∙ elim (eq_by_cmp cell_cmp c y.cell) as (λ b. b || (changes cell_cmp xs c || eq_by_cmp cell_cmp c x.cell) ≡ (b || changes cell_cmp xs c) ||
    eq_by_cmp cell_cmp c x.cell) [ true ↦ refl | false ↦ refl ]

pub once-push : (xs : Changes) (x : Change Cell Value) → AllOnce cell_cmp xs → changes cell_cmp xs x.cell ≡ false → AllOnce cell_cmp (xs ++ x ∷ [])
once-push [] x once new = (refl, tt)
once-push (y ∷ xs) x once new =
    let parts = or_neither (eq_by_cmp cell_cmp x.cell y.cell) (changes cell_cmp xs x.cell) new in
    (last_of xs x y.cell ∙ rw (once.0, (eq_by_cmp_equiv cell_order.total).symm y.cell x.cell, parts.0) refl, once-push xs x once.1 parts.1)

-- a change was added, or none was
pub once_pushed : {E : Type 0} (r : Result (Unit {0}) E) (xs ys : Changes) (x : Change Cell Value) → OnOk r (ys ≡ xs ++ x ∷ []) → OnErr r (ys ≡ xs) →
    AllOnce cell_cmp xs → changes cell_cmp xs x.cell ≡ false → AllOnce cell_cmp ys
once_pushed (Ok u) xs ys x ok err once new = rw ok (once-push xs x once new)
once_pushed (Err e) xs ys x ok err once new = rw err once
