-- A map of the cells in their order shows its entries.
use Rattle.std.proofs.Common.{◌≡◌, Bool, true, false, cond, List, [], ◌∷◌, length, Some, IsSome, refl, sym, ap, subst, ◌∙◌}
use Rattle.std.specs.Cmp.{tied_itself}
use Rattle.std.specs.List.{AllByRecursion}
use Rattle.std.specs.Ordering.{is_eq}
use Rattle.std.specs.declared.cmp.Ordering.{Ordering}
use Rattle.std.specs.List.Sorted.{IsStrictlySortedBy}
use Rattle.std.specs.BTreeMap.{BTreeMap, is_at}
use Rattle.std.specs.BTreeMap as tree
use Rattle.std.specs.Map.{keys_of, lookup}
use Rattle.std.specs.FinMap.{empty, entries, from_entries, keys, len-entries, len-empty, entries-insert, put}
use Rattle.wb_cells.specs.declared.cells.cell.Cell.{Cell}
use Rattle.wb_cells.specs.declared.cells.value.Value.{Value}
use Rattle.wb_cells.specs.Cells.{Cells, Stored, cell_cmp, cell_order, state_of, map_state}

no_entries : (es : List (Cell × Value)) → length es ≡ 0 → es ≡ []
no_entries [] e = refl
no_entries (x ∷ es) e = cc

put_first : (e : Cell × Value) (es : List (Cell × Value)) → IsStrictlySortedBy cell_cmp (keys_of (e ∷ es)) → put cell_cmp e.0 e.1 es ≡ e ∷ es
unfolding IsStrictlySortedBy
put_first e [] s = refl
put_first e (x ∷ es) s = rw s.0.0 refl

rest_sorted : (e : Cell × Value) (es : List (Cell × Value)) → IsStrictlySortedBy cell_cmp (keys_of (e ∷ es)) → IsStrictlySortedBy cell_cmp (keys_of es)
unfolding IsStrictlySortedBy
rest_sorted e es s = s.1

pub entries_ascending : (es : List (Cell × Value)) → IsStrictlySortedBy cell_cmp (keys_of es) → entries (from_entries {R = cell_cmp} es) ≡ es
entries_ascending [] s =
    let none : Cells = empty in
    no_entries (entries none) (sym (len-entries none) ∙ len-empty cell_cmp Value)
entries_ascending (e ∷ es) s =
    entries-insert cell_order.total (from_entries es) e.0 e.1
    ∙ ap (put cell_cmp e.0 e.1) (entries_ascending es (rest_sorted e es s))
    ∙ put_first e es s

pub entries-state_of : (m : Stored) → IsStrictlySortedBy cell_cmp (keys_of m.entries) → entries (state_of m) ≡ m.entries
entries-state_of m s = entries_ascending m.entries s

pub entries-map_state : (m : BTreeMap Cell Value) → tree.IsOrdered cell_cmp m → entries (map_state m) ≡ m.entries
entries-map_state m s = entries_ascending m.entries s

pub keys-map_state : (m : BTreeMap Cell Value) → tree.IsOrdered cell_cmp m → keys (map_state m) ≡ tree.keys m
keys-map_state m s = ap (λ es. keys_of es) (entries_ascending m.entries s)

-- each cell of a list is found in it
found_behind : (e : Cell × Value) (es : List (Cell × Value)) (xs : List Cell) → AllByRecursion (λ c. IsSome (lookup (is_at (cell_cmp c)) es)) xs →
    AllByRecursion (λ c. IsSome (lookup (is_at (cell_cmp c)) (e ∷ es))) xs
found_behind e es [] all = tt
found_behind e es (x ∷ xs) all = (by (is_at (cell_cmp x) e.0) all.0, found_behind e es xs all.1)
  where
    by : (b : Bool) → IsSome (lookup (is_at (cell_cmp x)) es) → IsSome (cond b (Some e.1) (lookup (is_at (cell_cmp x)) es))
    by true there = refl
    by false there = there

pub each_found : (es : List (Cell × Value)) → AllByRecursion (λ c. IsSome (lookup (is_at (cell_cmp c)) es)) (keys_of es)
each_found [] = tt
each_found (e ∷ es) = (
  subst (λ (o : Ordering). IsSome (cond (is_eq o) (Some e.1) (lookup (is_at (cell_cmp e.0)) es))) (sym (tied_itself cell_order.total e.0)) refl,
  found_behind e es (keys_of es) (each_found es),
)
