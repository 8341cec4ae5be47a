-- What a pattern shows after changes.
use Rattle.std.proofs.Common.{◌≡◌, Bool, true, false, true≢false, cond, not, ◌&&◌, T, List, [], ◌∷◌, Some, None, refl, sym, ap, ◌∙◌, Ordering}
use Rattle.std.specs.FinMap.{find, get, empty, entries, entries_sorted, get-entries, get-empty, is_sorted, retain_keys, get-retain_keys}
use Rattle.std.specs.FinMap.Entries.{below_all, where_key}
use Rattle.std.specs.List.{filter_map, list_any}
use Rattle.std.specs.Map.{keys_of}
use Rattle.std.specs.Ordering.{eq_by_cmp, is_eq, is_lt}
use Rattle.std.specs.declared.cmp.Ordering.TheVariants.{Less, Equal, Greater}
use Rattle.selective_undo.specs.declared.Change.{Change}
use Rattle.selective_undo.specs.Changes.{applied, apply, changes, sets, clears, AllOnce}
use Rattle.selective_undo.specs.Together.{left_in}
use Rattle.selective_undo.proofs.AllOrNothing.{tied, sets_clears}
use Rattle.selective_undo.proofs.Changes.{same_states, get-put, not_true}
use Rattle.selective_undo.proofs.Evaluation.{entries-retain_keys}
use Rattle.selective_undo.proofs.Locality.{or_neither}
use Rattle.wb_cells.specs.declared.cells.cell.Cell.{Cell}
use Rattle.wb_cells.specs.declared.cells.cell.Cell.TheVariants.{Object}
use Rattle.wb_cells.specs.declared.cells.pattern.Pattern.{Pattern}
use Rattle.wb_cells.specs.declared.cells.pattern.Pattern.TheVariants.{Objects, Members, Elements}
use Rattle.wb_cells.specs.declared.cells.value.Value.{Value}
use Rattle.wb_cells.specs.Cells.{Name, Cells, Changes, cell_cmp, cell_order, matches}
use Rattle.wb_cells.specs.Readers.{seen, member_in, members, element_in, elements, object_of, objects}
use Rattle.wb_layers.specs.Places.{as_changes, IsFamily}
use Rattle.wb_layers.proofs.Placed.{left_in-keeps}

pub get-apply : (xs : Changes) (s : Cells) (c : Cell) → get (apply xs s) c ≡ left_in cell_cmp xs c (get s c)
get-apply [] s c = refl
get-apply (x ∷ xs) s c = get-apply xs (applied x s) c ∙ ap (left_in cell_cmp xs c) (get-put cell_order x s c)

-- ---- cells as changes that set them

first : (a b : Bool) → T (a && b) → T a
first true b p = tt
first false b p = p

second : (a b : Bool) → T (a && b) → T b
second true b p = p
second false b p = absurd p

less_is_other : (o : Ordering) → T (is_lt o) → is_eq o ≡ false
less_is_other Less p = refl
less_is_other Equal p = absurd p
less_is_other Greater p = absurd p

none_set : (c : Cell) (es : List (Cell × Value)) → T (below_all cell_cmp c es) → changes cell_cmp (as_changes es) c ≡ false
none_set c [] h = refl
none_set c (e ∷ es) h =
    let lower : T (is_lt (cell_cmp c e.0)) = first (is_lt (cell_cmp c e.0)) (below_all cell_cmp c es) h in
    rw (less_is_other (cell_cmp c e.0) lower) (none_set c es (second (is_lt (cell_cmp c e.0)) (below_all cell_cmp c es) h))

left_in-set : (es : List (Cell × Value)) (c : Cell) → T (is_sorted cell_cmp es) → left_in cell_cmp (as_changes es) c None ≡ find cell_cmp c es
left_in-set [] c h = refl
left_in-set (e ∷ es) c h = elim (eq_by_cmp cell_cmp c e.0) as
    (λ b. eq_by_cmp cell_cmp c e.0 ≡ b → left_in cell_cmp (as_changes es) c (cond b (Some e.1) None) ≡ cond b (Some e.1) (find cell_cmp c es)) [
      | true ↦ λ same. left_in-keeps (as_changes es) c (Some e.1) (ap (changes cell_cmp (as_changes es)) (tied cell_order c e.0 same) ∙
          none_set e.0 es (first (below_all cell_cmp e.0 es) (is_sorted cell_cmp es) h))
      | false ↦ λ other. left_in-set es c (second (below_all cell_cmp e.0 es) (is_sorted cell_cmp es) h)
    ] refl

sets-set : (es : List (Cell × Value)) → sets (as_changes es) ≡ as_changes es
sets-set [] = refl
sets-set (e ∷ es) = ap (λ xs. record { cell = e.0; value = Some e.1 } ∷ xs) (sets-set es)

-- set one after another in no cells, they are the cells again
becomes : (s : Cells) → apply (sets (as_changes (entries s))) empty ≡ s
becomes s =
    ap (λ xs. apply xs empty) (sets-set (entries s))
    ∙ same_states cell_order (apply (as_changes (entries s)) empty) s (λ c.
    get-apply (as_changes (entries s)) empty c ∙ ap (left_in cell_cmp (as_changes (entries s)) c) (get-empty cell_cmp c)
    ∙ left_in-set (entries s) c (entries_sorted s) ∙ sym (get-entries s c))

-- what stands in cells is set in no cells, and then changed
pub over_set : (t : Cells) (es : List (Cell × Value)) (before own : Changes) (a b c d : Cells) → AllOnce cell_cmp own → es ≡ entries t → a ≡ empty →
    before ≡ as_changes es → b ≡ apply (sets before) a → c ≡ apply (sets own) b → d ≡ apply (clears own) c → entries d ≡ entries (apply own t)
over_set t es before own a b c d once shown none set first_set then_set cleared =
    let made : b ≡ t = first_set ∙ ap (λ (q : Cells). apply (sets before) q) none ∙ ap (λ (ys : Changes). apply (sets ys) empty) (set ∙ ap as_changes shown) ∙ becomes t in
    ap entries (cleared ∙ ap (apply (clears own)) (then_set ∙ ap (apply (sets own)) made) ∙ sets_clears cell_order own t once)

-- ---- the changes of the cells that a pattern names

module _ (p : Pattern) where
  -- a change of a cell that the pattern doesn't name is of another cell than one that it names
  apart : (x : Change Cell Value) (c : Cell) (b : Bool) → matches p c ≡ b → matches p x.cell ≡ not b → eq_by_cmp cell_cmp c x.cell ≡ false
  apart x c true e other = not_true _ (λ same. true≢false (sym e ∙ ap (matches p) (tied cell_order c x.cell same) ∙ other))
  apart x c false e other = not_true _ (λ same. true≢false (sym other ∙ ap (matches p) (sym (tied cell_order c x.cell same)) ∙ e))

  alike : (c x : Cell) → cell_cmp c x ≡ Equal → matches p x ≡ matches p c
  alike c x tie = ap (matches p) (sym (cell_order.strict c x tie))

  -- made where it shows them, they make what it shows after all changes
  pub seen_family : (s : Cells) (xs own : Changes) → IsFamily p xs own → entries (apply own (retain_keys s (matches p))) ≡ seen (apply xs s) p
  seen_family s xs own of =
      ap entries (same_states cell_order _ _ (λ c.
      get-apply own (retain_keys s (matches p)) c
      ∙ ap (left_in cell_cmp own c) (get-retain_keys s (matches p) c (alike c))
      ∙ of.left c (cond (matches p c) (get s c) None)
      ∙ elim (matches p c) as (λ b. cond b (left_in cell_cmp xs c (cond b (get s c) None)) (cond b (get s c) None) ≡ cond b (left_in cell_cmp xs c (get s c)) None) [
        | true ↦ refl
        | false ↦ refl
      ]
      ∙ ap (λ v. cond (matches p c) v None) (sym (get-apply xs s c))
      ∙ sym (get-retain_keys (apply xs s) (matches p) c (alike c))))

  -- where no change is of a cell that it names, it shows what it did
  pub untouched_cell : (xs : Changes) (c : Cell) → list_any (λ x. matches p x.cell) xs ≡ false → matches p c ≡ true → changes cell_cmp xs c ≡ false
  untouched_cell [] c e h = refl
  untouched_cell (x ∷ xs) c e h =
      let parts = or_neither (matches p x.cell) (list_any (λ x. matches p x.cell) xs) e in
      rw (apart x c true h parts.0) (untouched_cell xs c parts.1 h)

  pub untouched : (s : Cells) (xs : Changes) → list_any (λ x. matches p x.cell) xs ≡ false → seen (apply xs s) p ≡ seen s p
  untouched s xs e =
      ap entries (same_states cell_order _ _ (λ c.
      get-retain_keys (apply xs s) (matches p) c (alike c)
      ∙ elim (matches p c) as (λ b. matches p c ≡ b → cond b (get (apply xs s) c) None ≡ cond b (get s c) None) [
        | true ↦ λ h. get-apply xs s c ∙ left_in-keeps xs c (get s c) (untouched_cell xs c e h)
        | false ↦ λ h. refl
      ] refl
      ∙ sym (get-retain_keys s (matches p) c (alike c))))

-- ---- objects

tell : (es : List (Cell × Value)) → filter_map (λ x. object_of x.0) (where_key cell_cmp (matches Objects) es) ≡ filter_map object_of (keys_of es)
tell [] = refl
tell ((Object n, v) ∷ es) = ap (λ ns. n ∷ ns) (tell es)
tell (e ∷ es) = tell es

-- the objects are those that a look at all objects tells of
pub objects_shown : (s : Cells) → filter_map (λ x. object_of x.0) (seen s Objects) ≡ objects s
objects_shown s = ap (filter_map (λ x. object_of x.0)) (entries-retain_keys cell_order s (matches Objects)) ∙ tell (entries s)

pub objects_kept : (s : Cells) (xs : Changes) → list_any (λ x. matches Objects x.cell) xs ≡ false → objects (apply xs s) ≡ objects s
objects_kept s xs e = sym (objects_shown (apply xs s)) ∙ ap (filter_map (λ x. object_of x.0)) (untouched Objects s xs e) ∙ objects_shown s

-- ---- members and elements

pub members_kept : (s : Cells) (xs : Changes) (d : Name) → list_any (λ x. matches (Members d) x.cell) xs ≡ false → members (apply xs s) d ≡ members s d
members_kept s xs d e = ap (filter_map member_in) (untouched (Members d) s xs e)

pub elements_kept : (s : Cells) (xs : Changes) (a : Name) → list_any (λ x. matches (Elements a) x.cell) xs ≡ false → elements (apply xs s) a ≡ elements s a
elements_kept s xs a e = ap (filter_map element_in) (untouched (Elements a) s xs e)
