-- The cells that a fill reads and changes, and the numbers that they held.
use Rattle.std.proofs.Common.{◌≡◌, ◌≤◌, ℤ, false, List, [], ◌∷◌, ◌++◌, length, get_or, map, Option, Some, None, is_some, refl, sym, ap, ◌∙◌, arith}
use Rattle.std.specs.List.{zip}
use Rattle.std.proofs.lemmas.List.{append-nil, length-map, map-append}
use Rattle.selective_undo.specs.Changes.{inverse}
use Rattle.selective_undo.specs.declared.Change.{Change}
use Rattle.wb_cells.specs.declared.cells.cell.Cell.{Cell}
use Rattle.wb_cells.specs.declared.cells.cell.Cell.TheVariants.{Element}
use Rattle.wb_cells.specs.declared.cells.pattern.Pattern.{Pattern}
use Rattle.wb_cells.specs.declared.cells.pattern.Pattern.TheVariants.{One}
use Rattle.wb_cells.specs.declared.cells.value.Value.{Value}
use Rattle.wb_cells.specs.declared.cells.value.Value.TheVariants.{Number}
use Rattle.wb_cells.specs.declared.changes.row.IndexedRow.{IndexedRow}
use Rattle.wb_cells.specs.declared.changes.row.IndexedRow.TheVariants.{Elements}
use Rattle.wb_cells.specs.declared.changes.rectangle.RectangleChanges.{RectangleChanges}
use Rattle.wb_cells.specs.declared.changes.run.ChangeRun.{ChangeRun}
use Rattle.wb_cells.specs.declared.changes.run.RunForm.TheVariants.{Rectangle}
use Rattle.wb_cells.specs.declared.values.index.Index.TheVariants.{Point}
use Rattle.wb_cells.specs.Cells.{Name, Cells, Changes}
use Rattle.wb_cells.specs.Reads.{patterns_of}
use Rattle.wb_cells.specs.Runs.{cell_of, changes_in, all_changes, in_first, packed_changes, rectangle_entries, numbered_entries}
use Rattle.wb_cells.specs.Shapes.{Range, indices}
use Rattle.wb_log.specs.Fills.{filled_cells, held_cells, values_in, values_of}

-- ---- lists of one

pub one_changed : (rs : List ChangeRun) (r : ChangeRun) → length rs ≡ 1 → all_changes rs ≡ changes_in (get_or rs 0 r).form
one_changed [] r e = absurd (omega (arith, e))
one_changed (x ∷ []) r e = append-nil (changes_in x.form)
one_changed (x ∷ y ∷ rs) r e = absurd (omega (arith, e))

-- ---- the cells

-- they are the same whatever is set
pub same_cells : (row : IndexedRow) (n m : Option ℤ) (ps : List (List ℤ)) →
    patterns_of (packed_changes row (map (λ p. (p, n)) ps)) ≡ patterns_of (packed_changes row (map (λ p. (p, m)) ps))
same_cells row n m [] = refl
same_cells row n m (p ∷ ps) = ap (λ (l : List Pattern). One (cell_of row (Point p)) ∷ l) (same_cells row n m ps)

none_first : (o : Option (Change Cell Value)) → is_some o ≡ false → in_first o ≡ []
none_first None e = refl
none_first (Some x) e = cc

-- those of a list that is one run, of a rectangle
pub filled_alone : (xs : Changes) (o : Option (Change Cell Value)) (rs : List ChangeRun) (r : ChangeRun) (b : RectangleChanges) (a : Name) (on : List Range) →
    xs ≡ in_first o ++ all_changes rs → is_some o ≡ false → length rs ≡ 1 → (get_or rs 0 r).form ≡ Rectangle b → b.row ≡ Elements a → b.ranges ≡ on →
    patterns_of xs ≡ patterns_of (filled_cells a on)
filled_alone xs o rs r b a on is none one form row ranges =
    let same : patterns_of (packed_changes b.row (rectangle_entries b.ranges b.number)) ≡ patterns_of (packed_changes b.row (rectangle_entries b.ranges None)) =
    same_cells b.row b.number None _ in
    ap patterns_of (is ∙ ap (λ (l : Changes). l ++ all_changes rs) (none_first o none) ∙ one_changed rs r one ∙ ap changes_in form)
    ∙ same
    ∙ ap (λ (k : IndexedRow). patterns_of (packed_changes k (rectangle_entries b.ranges None))) row
    ∙ ap (λ (k : List Range). patterns_of (filled_cells a k)) ranges

-- and what takes changes back is of the same
pub inverse_cells : (xs : Changes) (s : Cells) → patterns_of (inverse xs s) ≡ patterns_of xs
inverse_cells [] s = refl
inverse_cells (x ∷ xs) s = ap (λ (l : List Pattern). One x.cell ∷ l) (inverse_cells xs s)

-- ---- their numbers

-- what a number at each point sets, where no number is left over
pub values_told : (a : Name) (ps : List (List ℤ)) (ns : List ℤ) → length ns ≤ length ps →
    values_in (packed_changes (Elements a) (zip ps (map (λ n. Some n) ns))) ≡ values_of ns
values_told a [] [] h = refl
values_told a [] (n ∷ ns) h = absurd (omega (arith, h))
values_told a (p ∷ ps) [] h = refl
values_told a (p ∷ ps) (n ∷ ns) h = ap (λ (l : List (Option Value)). Some (Number n) ∷ l) (values_told a ps ns (omega (arith, h)))

abbrev change_to : Cell → Option Value → Change Cell Value
change_to c v = record { cell = c; value = v }

-- changes are told by their cells and the numbers that they set
pub by_values : (a : Name) (m : Option ℤ) (ps : List (List ℤ)) (ns : List ℤ) (xs : Changes) →
    patterns_of xs ≡ patterns_of (packed_changes (Elements a) (map (λ p. (p, m)) ps)) → values_of ns ≡ values_in xs →
    packed_changes (Elements a) (zip ps (map (λ n. Some n) ns)) ≡ xs
by_values a m [] [] [] cells values = refl
by_values a m [] [] (x ∷ xs) cells values = cc
by_values a m [] (n ∷ ns) [] cells values = cc
by_values a m [] (n ∷ ns) (x ∷ xs) cells values = cc
by_values a m (p ∷ ps) [] [] cells values = cc
by_values a m (p ∷ ps) [] (x ∷ xs) cells values = cc
by_values a m (p ∷ ps) (n ∷ ns) [] cells values = cc
by_values a m (p ∷ ps) (n ∷ ns) (x ∷ xs) cells values =
    let cell : Element a (Point p) ≡ x.cell = cc in
    let value : Some (Number n) ≡ x.value = cc in
    let more_cells : patterns_of xs ≡ patterns_of (packed_changes (Elements a) (map (λ k. (k, m)) ps)) = cc in
    let more_values : values_of ns ≡ values_in xs = cc in
    let rest : Changes = packed_changes (Elements a) (zip ps (map (λ k. Some k) ns)) in
    ap (λ (c : Cell). change_to c (Some (Number n)) ∷ rest) cell
    ∙ ap (λ (v : Option Value). change_to x.cell v ∷ rest) value
    ∙ ap (λ (l : Changes). x ∷ l) (by_values a m ps ns xs more_cells more_values)

values_within : (a : Name) (ps : List (List ℤ)) (ns : List ℤ) → length ns ≤ length (map Point ps) →
    values_in (packed_changes (Elements a) (zip ps (map (λ n. Some n) ns))) ≡ values_of ns
values_within a ps ns few = values_told a ps ns (omega (arith, few, length-map ps Point))

-- numbers behind others
pub block_added : (all old ns : List ℤ) (row : IndexedRow) (a : Name) (rs : List Range) → row ≡ Elements a → length ns ≤ length (indices rs) → all ≡ old ++ ns →
    values_of all ≡ values_of old ++ values_in (packed_changes row (numbered_entries rs ns))
block_added all old ns row a rs is few added =
    let f : ℤ → Option Value = λ n. Some (Number n) in
    let there : values_in (packed_changes (Elements a) (numbered_entries rs ns)) ≡ values_of ns = values_within a _ ns few in
    let told : values_in (packed_changes row (numbered_entries rs ns)) ≡ values_of ns =
    ap (λ (k : IndexedRow). values_in (packed_changes k (numbered_entries rs ns))) is ∙ there in
    ap values_of added ∙ map-append f old ns ∙ ap (λ (l : List (Option Value)). values_of old ++ l) (sym told)

-- numbers at the cells of a list are that list, where it sets these
pub held_told : (a : Name) (on : List Range) (ns : List ℤ) (xs : Changes) → patterns_of xs ≡ patterns_of (filled_cells a on) → values_of ns ≡ values_in xs →
    held_cells a on ns ≡ xs
held_told a on ns xs cells values = by_values a None _ ns xs cells values
