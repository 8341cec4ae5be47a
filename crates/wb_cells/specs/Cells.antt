-- The cells of a workbook: their order, and which of them a pattern names.
use Rattle.std.specs.Prelude.{◌≡◌, ℕ, ◌+◌, ◌-◌, ◌^◌, min, Bool, true, false, List, length, refl}
use Rattle.std.specs.BTreeMap.{BTreeMap}
use Rattle.std.specs.Cmp.{IsTotalOrder}
use Rattle.std.specs.Cmp.Lexicographic.{slice_cmp}
use Rattle.std.specs.Coded.{Coded, code_by, coded×, coded_list, coded_ℕ}
use Rattle.std.specs.FinMap.{FinMap, code, from_entries, IsAntisymmetric, nat_cmp-IsAntisymmetric, int_cmp-IsAntisymmetric, slice_cmp-IsAntisymmetric}
use Rattle.std.specs.List.{filter}
use Rattle.std.specs.Ordering.{eq_by_cmp, nat_cmp, ordering_then}
use Rattle.std.specs.declared.cmp.Ordering.{Ordering}
use Rattle.std.specs.declared.cmp.Ordering.TheVariants.{Less, Equal, Greater}
use Rattle.std.proofs.Common.{ap}
use Rattle.selective_undo.specs.declared.Change.{Change}
use Rattle.selective_undo.specs.Changes.{IsOrder}
use Rattle.wb_cells.specs.contracts.cells.cell.Cell as cell_row
use Rattle.wb_cells.specs.contracts.cells.cell.CellOrd.TheImpl as cells
use Rattle.wb_cells.specs.contracts.cells.cell.CellOrd.TheImpl.Laws as laws
use Rattle.wb_cells.specs.contracts.cells.value.Value as value_row
use Rattle.wb_cells.specs.contracts.values.index.IndexOrd.TheImpl as the_indices
use Rattle.wb_cells.specs.declared.cells.cell.Cell.{Cell}
use Rattle.wb_cells.specs.declared.cells.cell.Cell.TheVariants.{Object, Shape, In, Member, Mapping, Use, Implicit, Element}
use Rattle.wb_cells.specs.declared.cells.pattern.Pattern.{Pattern}
use Rattle.wb_cells.specs.declared.cells.pattern.Pattern.TheVariants.{Objects, One, Members, Uses, Elements}
use Rattle.wb_cells.specs.declared.cells.value.Value as held
use Rattle.wb_cells.specs.declared.values.index.Index.{Index}
use Rattle.wb_cells.specs.declared.values.index.Index.TheVariants.{Point, Text}

-- a name is its bytes
abbrev pub Name : Type 0
Name = List ℕ

abbrev pub index_cmp : Index → Index → Ordering
index_cmp = (the_indices.ghosts).cmp

abbrev pub cell_cmp : Cell → Cell → Ordering
cell_cmp = (cells.ghosts).cmp

abbrev pub is_same_name : Name → Name → Bool
is_same_name = eq_by_cmp (slice_cmp nat_cmp)

abbrev pub is_same_index : Index → Index → Bool
is_same_index = eq_by_cmp index_cmp

-- whether a pattern names a cell
abbrev pub matches : Pattern → Cell → Bool
matches Objects (Object n) = true
matches Objects _ = false
matches (One c) x = eq_by_cmp cell_cmp c x
matches (Members d) (Member e i) = is_same_name d e
matches (Members d) _ = false
matches (Uses d) (Use e n) = is_same_name d e
matches (Uses d) _ = false
matches (Elements a) (Element b i) = is_same_name a b
matches (Elements a) _ = false

-- ---- the order is total, and equal cells alone tie

pub cell_cmp_total : IsTotalOrder cell_cmp
cell_cmp_total = laws.total-law

both_equal : (p q : Ordering) → ordering_then p q ≡ Equal → (p ≡ Equal) × (q ≡ Equal)
both_equal Less q e = cc
both_equal Equal q e = (refl, e)
both_equal Greater q e = cc

pub same_names : IsAntisymmetric (slice_cmp nat_cmp)
same_names = slice_cmp-IsAntisymmetric nat_cmp-IsAntisymmetric

pub index_cmp-IsAntisymmetric : IsAntisymmetric index_cmp
index_cmp-IsAntisymmetric (Point i) (Point j) e = ap Point (slice_cmp-IsAntisymmetric int_cmp-IsAntisymmetric i j e)
index_cmp-IsAntisymmetric (Text i) (Text j) e = ap Text (same_names i j e)
index_cmp-IsAntisymmetric _ _ e = cc

same_at : (make : Name → Index → Cell) (d e : Name) (i j : Index) → ordering_then (slice_cmp nat_cmp d e) (index_cmp i j) ≡ Equal → make d i ≡ make e j
same_at make d e i j tie =
    let both = both_equal (slice_cmp nat_cmp d e) (index_cmp i j) tie in
    let name = same_names d e both.0 in
    let index = index_cmp-IsAntisymmetric i j both.1 in
    cc

pub cell_cmp-IsAntisymmetric : IsAntisymmetric cell_cmp
cell_cmp-IsAntisymmetric (Object m) (Object n) e = ap Object (same_names m n e)
cell_cmp-IsAntisymmetric (Shape m) (Shape n) e = ap Shape (same_names m n e)
cell_cmp-IsAntisymmetric (In d i) (In e j) tie = same_at In d e i j tie
cell_cmp-IsAntisymmetric (Member d i) (Member e j) tie = same_at Member d e i j tie
cell_cmp-IsAntisymmetric (Mapping m) (Mapping n) e = ap Mapping (same_names m n e)
cell_cmp-IsAntisymmetric (Use d m) (Use e n) tie =
    let both = both_equal (slice_cmp nat_cmp d e) (slice_cmp nat_cmp m n) tie in
    let domain = same_names d e both.0 in
    let user = same_names m n both.1 in
    cc
cell_cmp-IsAntisymmetric (Implicit m) (Implicit n) e = ap Implicit (same_names m n e)
cell_cmp-IsAntisymmetric (Element d i) (Element e j) tie = same_at Element d e i j tie
cell_cmp-IsAntisymmetric _ _ e = cc

pub cell_order : IsOrder cell_cmp
cell_order = record { total = cell_cmp_total; strict = cell_cmp-IsAntisymmetric }

-- ---- the workbook as its cells

-- which cells are present, and what stands in them
abbrev pub Cells : Type 0
Cells = FinMap cell_cmp held.Value

abbrev pub Changes : Type 0
Changes = List (Change Cell held.Value)

-- Stored cells with what stands in them, in their order.
pub record Stored : Type 0 where
  pub entries : List (Cell × held.Value)

abbrev pub stored_code : Coded Stored
stored_code =
    code_by (List (Cell × held.Value)) (coded_list (coded× cell_row.the_row.coded value_row.the_row.coded)) (λ a. a.entries)
    (λ es. record { entries = es }) (λ _. refl)

-- the cells that they are
abbrev pub state_of : Stored → Cells
state_of m = from_entries m.entries

-- the cells that a map of them holds
abbrev pub map_state : BTreeMap Cell held.Value → Cells
map_state m = from_entries m.entries

-- What a book shows: its cells, and how many were set so far.
pub record Contents : Type 0 where
  pub cells : Cells
  pub writes : ℕ

abbrev pub contents_code : Coded Contents
contents_code =
    code_by (Cells × ℕ) (coded× (code cell_row.the_row.coded value_row.the_row.coded) coded_ℕ) (λ a. (a.cells, a.writes))
    (λ a. record { cells = a.0; writes = a.1 }) (λ _. refl)

-- ---- counts: the cells `In` follow from the shapes, and are not counted

abbrev pub is_counted : Cell → Bool
is_counted (In d i) = false
is_counted _ = true

abbrev pub count_of : Changes → ℕ
count_of xs = length (filter (λ x. is_counted x.cell) xs)

-- a count that stops at the greatest `u128`
abbrev pub saturating_add : ℕ → ℕ → ℕ
saturating_add n k = min (n + k) (2 ^ 128 - 1)
