-- What a loaded workbook writes, and where.
use Rattle.std.proofs.Common.{◌≡◌, true, false, cond, T, List, [], ◌∷◌, ◌++◌, Option, Some, None, Result, Ok, Err, slice_get, refl, sym, ap, subst}
use Rattle.std.proofs.Common.{◌∙◌, Ordering}
use Rattle.std.specs.Cmp.{eq_by_cmp_equiv}
use Rattle.std.specs.FinMap.{find, get, entries, entries_sorted, get-entries, is_sorted}
use Rattle.std.specs.FinMap.Entries.{below_all, where_key}
use Rattle.std.specs.List.{filter_map}
use Rattle.std.specs.Map.{keys_of}
use Rattle.std.specs.Ordering.{eq_by_cmp, is_eq, is_lt}
use Rattle.std.specs.declared.cmp.Ordering.TheVariants.{Less, Equal, Greater}
use Rattle.selective_undo.specs.declared.Change.{Change}
use Rattle.selective_undo.specs.Changes.{apply, changes, AllOnce}
use Rattle.selective_undo.specs.Edit.{seen}
use Rattle.selective_undo.proofs.Changes.{same_states}
use Rattle.selective_undo.proofs.Evaluation.{entries-retain_keys}
use Rattle.selective_undo.proofs.Locality.{or_neither}
use Rattle.wb_cells.specs.declared.cells.cell.Cell.{Cell}
use Rattle.wb_cells.specs.declared.cells.cell.Cell.TheVariants.{Object, Shape, In, Member, Mapping, Use, Implicit, Element}
use Rattle.wb_cells.specs.declared.cells.pattern.Pattern.TheVariants.{Objects}
use Rattle.wb_cells.specs.declared.cells.value.Value.{Value}
use Rattle.wb_cells.specs.declared.values.index.Index.{Index}
use Rattle.wb_cells.specs.Cells.{Name, Cells, Changes, cell_cmp, cell_order, matches}
use Rattle.wb_cells.specs.Readers.{object_of, objects}
use Rattle.wb_cells.specs.WellFormed.{IsWellFormed, IsShape, IsMember, HasMapping, IsImplicit, IsElement, domain_in, array_in, ranges_in, inside_of, use_of}
use Rattle.wb_cells.specs.WellFormed.{is_index_of_array}
use Rattle.wb_cells.specs.declared.refusal.WhyRefused.{WhyRefused}
use Rattle.wb_cells.specs.declared.refusal.WhyRefused.TheVariants.{NotEmpty}
use Rattle.wb_edit.specs.Commands.{book_cells}
use Rattle.wb_edit.specs.Objects.{is_empty}
use Rattle.wb_cells.specs.Schema.{workbook}
use Rattle.wb_edit.specs.Writes.{put_each}
use Rattle.wb_edit.proofs.IndexedRows.{changes-append}
use Rattle.wb_reshape.proofs.Gets.{after, get-apply, same_key}
use Rattle.wb_reshape.proofs.Sorted.{first, second}

-- ---- pairs whose cells rise name each cell once

less_is_other : (o : Ordering) → T (is_lt o) → is_eq o ≡ false
less_is_other Less p = refl
less_is_other Equal p = absurd p
less_is_other Greater p = absurd p

none_put : (c : Cell) (es : List (Cell × Value)) → T (below_all cell_cmp c es) → changes cell_cmp (put_each es) c ≡ false
none_put c [] h = refl
none_put c (e ∷ es) h = rw (less_is_other (cell_cmp c e.0) (first _ _ h)) (none_put c es (second _ _ h))

pub puts_once : (es : List (Cell × Value)) → T (is_sorted cell_cmp es) → AllOnce cell_cmp (put_each es)
puts_once [] h = tt
puts_once (e ∷ es) h = (none_put e.0 es (first _ _ h), puts_once es (second _ _ h))

-- of changes that name each cell once, one names none of the cells before it
pub next_new : (xs : Changes) (x : Change Cell Value) (ys : Changes) → AllOnce cell_cmp (xs ++ (x ∷ ys)) → changes cell_cmp xs x.cell ≡ false
next_new [] x ys h = refl
next_new (y ∷ xs) x ys h =
    let apart = or_neither (changes cell_cmp xs y.cell) (changes cell_cmp (x ∷ ys) y.cell) (sym (changes-append xs (x ∷ ys) y.cell) ∙ h.0) in
    let other = or_neither (eq_by_cmp cell_cmp y.cell x.cell) (changes cell_cmp ys y.cell) apart.1 in
    rw ((eq_by_cmp_equiv cell_order.total).symm x.cell y.cell ∙ other.0, next_new xs x ys h.1) refl

-- ---- they become the workbook where there was none

none_after : (xs : Changes) (c : Cell) (o : Option Value) → changes cell_cmp xs c ≡ false → after cell_cmp xs c o ≡ o
none_after [] c o h = refl
none_after (x ∷ xs) c o h =
    let apart = or_neither (eq_by_cmp cell_cmp c x.cell) (changes cell_cmp xs c) h in
    none_after xs c (cond (eq_by_cmp cell_cmp c x.cell) x.value o) apart.1 ∙ ap (λ b. cond b x.value o) apart.0

after_puts : (es : List (Cell × Value)) (c : Cell) → T (is_sorted cell_cmp es) → after cell_cmp (put_each es) c None ≡ find cell_cmp c es
after_puts [] c h = refl
after_puts (e ∷ es) c h = elim (eq_by_cmp cell_cmp c e.0) as
    (λ b. eq_by_cmp cell_cmp c e.0 ≡ b → after cell_cmp (put_each es) c (cond b (Some e.1) None) ≡ cond b (Some e.1) (find cell_cmp c es)) [
      | true ↦ λ same. none_after (put_each es) c (Some e.1) (ap (changes cell_cmp (put_each es)) (same_key cell_order c e.0 same) ∙
          none_put e.0 es (first _ _ h))
      | false ↦ λ other. after_puts es c (second _ _ h)
    ] refl

pub becomes : (w s : Cells) → ((c : Cell) → get s c ≡ None) → apply (book_cells w) s ≡ w
becomes w s none =
    same_states cell_order (apply (book_cells w) s) w (λ c.
    get-apply cell_order (book_cells w) s c ∙ ap (after cell_cmp (book_cells w) c) (none c) ∙ after_puts (entries w) c (entries_sorted w) ∙
    sym (get-entries w c))

-- ---- a workbook without objects has no cells

nothing_seen : (es : List (Cell × Value)) (x : Unit {0}) → is_empty es ≡ Ok x → es ≡ []
nothing_seen [] x e = refl
nothing_seen (y ∷ es) x e = cc

no_object_found : (es : List (Cell × Value)) (n : Name) → where_key cell_cmp (matches Objects) es ≡ [] → find cell_cmp (Object n) es ≡ None
no_object_found [] n h = refl
no_object_found ((Object m, v) ∷ es) n h = cc
no_object_found (e ∷ es) n h = no_object_found es n h

pub no_objects : (s : Cells) (x : Unit {0}) → is_empty (seen workbook Objects s) ≡ Ok x → (n : Name) → get s (Object n) ≡ None
no_objects s x e n =
    get-entries s (Object n)
    ∙ no_object_found (entries s) n (sym (entries-retain_keys cell_order s (matches Objects)) ∙ nothing_seen (seen workbook Objects s) x e)

no_member : (s : Cells) (i : Index) (o : Option Value) → IsMember s None i o → o ≡ None
no_member s i None h = refl
no_member s i (Some v) h = absurd h.1

no_shape : (s : Cells) (d : Name) → IsWellFormed s → get s (Object d) ≡ None → get s (Shape d) ≡ None
no_shape s d h none = subst (λ v. IsShape (domain_in v) (get s (Shape d))) none (h.shapes d)

pub nothing_there : (s : Cells) → IsWellFormed s → ((n : Name) → get s (Object n) ≡ None) → (c : Cell) → get s c ≡ None
nothing_there s h none (Object n) = none n
nothing_there s h none (Shape d) = no_shape s d h (none d)
nothing_there s h none (In d i) = h.insides d i ∙ ap (λ v. inside_of (ranges_in v) i) (no_shape s d h (none d))
nothing_there s h none (Member d i) = no_member s i (get s (Member d i)) (subst (λ v. IsMember s (domain_in v) i (get s (Member d i))) (none d) (h.members d i))
nothing_there s h none (Mapping d) = subst (λ v. HasMapping (domain_in v) (get s (Mapping d))) (none d) (h.mappings d)
nothing_there s h none (Use d n) = h.uses d n ∙ ap (use_of d) (none n)
nothing_there s h none (Implicit a) = subst (λ v. IsImplicit (array_in v) (get s (Implicit a))) (none a) (h.implicits a)
nothing_there s h none (Element a i) = subst (λ v. IsElement (is_index_of_array s (array_in v) i) (get s (Element a i))) (none a) (h.elements a i)

-- ---- the first object tells whether there is one

by_first : Option Name → Result (Unit {0}) WhyRefused
by_first None = Ok tt
by_first (Some n) = Err NotEmpty

emptied : (es : List (Cell × Value)) → is_empty (where_key cell_cmp (matches Objects) es) ≡ by_first (slice_get (filter_map object_of (keys_of es)) 0)
unfolding by_first
emptied [] = refl
emptied ((Object n, v) ∷ es) = refl
emptied (e ∷ es) = emptied es

judged_so : (s : Cells) → is_empty (seen workbook Objects s) ≡ by_first (slice_get (objects s) 0)
judged_so s = ap is_empty (entries-retain_keys cell_order s (matches Objects)) ∙ emptied (entries s)

pub without_first : (s : Cells) → None ≡ slice_get (objects s) 0 → is_empty (seen workbook Objects s) ≡ Ok tt
unfolding by_first
without_first s e = judged_so s ∙ ap by_first (sym e)

pub with_first : (s : Cells) (n : Name) → Some n ≡ slice_get (objects s) 0 → is_empty (seen workbook Objects s) ≡ Err NotEmpty
unfolding by_first
with_first s n e = judged_so s ∙ ap by_first (sym e)
