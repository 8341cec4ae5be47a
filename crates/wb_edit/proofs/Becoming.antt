-- Changes of elements that were seen touch each cell once.
use Rattle.std.proofs.Common.{◌≡◌, ℕ, zero, suc, ◌+◌, ◌<◌, true, false, T, ℤ, List, [], ◌∷◌, ◌++◌, take, length, get_or, refl, ap, ◌∙◌, arith, add-one}
use Rattle.std.proofs.Common.{Ordering}
use Rattle.std.proofs.Math.Seq.{take-suc}
use Rattle.std.specs.FinMap.{is_sorted}
use Rattle.std.specs.FinMap.Entries.{below_all}
use Rattle.std.specs.Ordering.{eq_by_cmp, is_eq, is_lt}
use Rattle.std.specs.declared.cmp.Ordering.TheVariants.{Less, Equal, Greater}
use Rattle.selective_undo.specs.Changes.{changes}
use Rattle.selective_undo.proofs.Changes.{not_true, is_itself}
use Rattle.wb_cells.specs.declared.cells.cell.Cell.TheVariants.{Element}
use Rattle.wb_cells.specs.declared.cells.value.Value.TheVariants.{Number}
use Rattle.wb_cells.specs.declared.values.index.Index.{Index}
use Rattle.wb_cells.specs.Cells.{Name, Changes, cell_cmp, cell_order, index_cmp}
use Rattle.wb_edit.specs.Commands.{number_cells}
use Rattle.wb_edit.specs.Writes.{set_to}
use Rattle.wb_edit.proofs.IndexedRows.{changes-append, map-append}
use Rattle.wb_edit.proofs.Elements.{index_order}
use Rattle.wb_reshape.proofs.Gets.{same_key}
use Rattle.wb_reshape.proofs.Sorted.{first, second}

below_at : (k : Index) (es : List (Index × ℤ)) (i : ℕ) (d : Index × ℤ) → T (below_all index_cmp k es) → i < length es →
    T (is_lt (index_cmp k (get_or es i d).0))
below_at k [] i d below low = absurd (omega (arith, low))
below_at k (e ∷ es) zero d below low = first _ _ below
below_at k (e ∷ es) (suc i) d below low = below_at k es i d (second _ _ below) (omega (arith, low))

pub less_and_equal : (o : Ordering) → T (is_lt o) → is_eq o ≡ true → ⊥
less_and_equal Less p e = cc
less_and_equal Equal p e = absurd p
less_and_equal Greater p e = absurd p

-- an index that is above another one has another cell
other_cell : (a : Name) (k i : Index) → T (is_lt (index_cmp k i)) → eq_by_cmp cell_cmp (Element a i) (Element a k) ≡ false
other_cell a k i above = not_true _ λ e.
    let cell : Element a i ≡ Element a k = same_key cell_order (Element a i) (Element a k) e in
    let index : i ≡ k = cc in
    less_and_equal (index_cmp k i) above (ap (λ j. eq_by_cmp index_cmp k j) index ∙ is_itself index_order k)

-- the element at a place has none of the cells before it
none_before : (a : Name) (es : List (Index × ℤ)) (i : ℕ) (d : Index × ℤ) → T (is_sorted index_cmp es) → i < length es →
    changes cell_cmp (number_cells a (take i es)) (Element a (get_or es i d).0) ≡ false
none_before a [] i d s low = absurd (omega (arith, low))
none_before a (e ∷ es) zero d s low = refl
none_before a (e ∷ es) (suc i) d s low =
    let below : i < length es = omega (arith, low) in
    let parts : T (below_all index_cmp e.0 es) × T (is_sorted index_cmp es) = (first _ _ s, second _ _ s) in
    let here : eq_by_cmp cell_cmp (Element a (get_or es i d).0) (Element a e.0) ≡ false =
    other_cell a e.0 (get_or es i d).0 (below_at e.0 es i d parts.0 below) in
    let rest = none_before a es i d parts.1 below in
    rw (here, rest) refl

pub next_is_new : (a : Name) (old : Changes) (es : List (Index × ℤ)) (i : ℕ) (d : Index × ℤ) →
    ((j : Index) → changes cell_cmp old (Element a j) ≡ false) → T (is_sorted index_cmp es) → i < length es
    → changes cell_cmp (old ++ number_cells a (take i es)) (Element a (get_or es i d).0) ≡ false
next_is_new a old es i d fresh s low =
    changes-append old (number_cells a (take i es)) (Element a (get_or es i d).0) ∙ rw (fresh (get_or es i d).0, none_before a es i d s low) refl

-- one more element
pub becomes_more : (a : Name) (es : List (Index × ℤ)) (i : ℕ) (d : Index × ℤ) → i < length es →
    number_cells a (take (i + 1) es) ≡ number_cells a (take i es) ++ number_cells a (get_or es i d ∷ [])
becomes_more a es i d low =
    ap (λ n. number_cells a (take n es)) (add-one i)
    ∙ ap (number_cells a) (take-suc es i d low)
    ∙ map-append (λ e. set_to (Element a e.0) (Number e.1)) (take i es) (get_or es i d ∷ [])
