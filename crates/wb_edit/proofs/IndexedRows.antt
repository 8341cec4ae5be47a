-- Cells of indices: each cell once.
use Rattle.std.proofs.Common.{◌≡◌, ℕ, zero, suc, ◌+◌, ◌<◌, true, false, ◌||◌, List, [], ◌∷◌, ◌++◌, map, take, length, Option, Some, None, slice_get, refl, sym}
use Rattle.std.proofs.Common.{ap, ◌∙◌, arith, add-one}
use Rattle.std.specs.Ordering.{eq_by_cmp}
use Rattle.std.specs.Cmp.{Equal-is}
use Rattle.selective_undo.specs.Changes.{changes}
use Rattle.selective_undo.proofs.Changes.{not_true}
use Rattle.wb_range.specs.Domain.{IsListedOnce}
use Rattle.wb_cells.specs.declared.cells.cell.Cell.{Cell}
use Rattle.wb_cells.specs.declared.cells.value.Value.{Value}
use Rattle.wb_cells.specs.declared.values.index.Index.{Index}
use Rattle.wb_cells.specs.Cells.{cell_cmp, cell_order, Changes}
use Rattle.wb_cells.specs.declared.changes.row.IndexedRow.{IndexedRow}
use Rattle.wb_cells.specs.declared.changes.row.IndexedRow.TheVariants.{Inside, Members, Elements}
use Rattle.wb_cells.specs.Runs.{cell_of}
use Rattle.wb_edit.specs.Changed.{set_all}

pub changes-append : (xs ys : Changes) (c : Cell) → changes cell_cmp (xs ++ ys) c ≡ changes cell_cmp xs c || changes cell_cmp ys c
changes-append [] ys c = refl
changes-append (x ∷ xs) ys c =
    ap (λ b. eq_by_cmp cell_cmp c x.cell || b) (changes-append xs ys c)
    ∙ elim (eq_by_cmp cell_cmp c x.cell) as (λ b. b || (changes cell_cmp xs c || changes cell_cmp ys c) ≡ (b || changes cell_cmp xs c) ||
    changes cell_cmp ys c) [ true ↦ refl | false ↦ refl ]

same_index : (row : IndexedRow) (i j : Index) → cell_of row i ≡ cell_of row j → i ≡ j
same_index (Inside d) i j e = cc
same_index (Members d) i j e = cc
same_index (Elements a) i j e = cc

-- an index that is not among some others has another cell
pub other_cells : (row : IndexedRow) (o : Option Value) (i : Index) (js : List Index) → ((q : ℕ) → slice_get js q ≡ Some i → ⊥) →
    changes cell_cmp (set_all (map (cell_of row) js) o) (cell_of row i) ≡ false
other_cells row o i [] other = refl
other_cells row o i (j ∷ js) other =
    let differs : eq_by_cmp cell_cmp (cell_of row i) (cell_of row j) ≡ false = not_true _ λ e.
    let same : cell_of row i ≡ cell_of row j = cell_order.strict (cell_of row i) (cell_of row j)
    ((Equal-is (cell_cmp (cell_of row i) (cell_of row j))).0 e) in
    other zero (ap Some (sym (same_index row i j same))) in
    let rest = other_cells row o i js (λ q e. other (suc q) e) in
    rw (differs, rest) refl

-- a cell that is no index's
pub elsewhere : (f : Index → Cell) (o : Option Value) (c : Cell) (js : List Index) → ((i : Index) → eq_by_cmp cell_cmp c (f i) ≡ false) →
    changes cell_cmp (set_all (map f js) o) c ≡ false
elsewhere f o c [] other = refl
elsewhere f o c (j ∷ js) other = let rest = elsewhere f o c js other in rw (other j, rest) refl

pub get-take : {X : Type 0} (xs : List X) (n q : ℕ) (x : X) → slice_get (take n xs) q ≡ Some x → (q < n) × (slice_get xs q ≡ Some x)
get-take [] zero q x e = cc
get-take [] (suc n) q x e = cc
get-take (y ∷ xs) zero q x e = cc
get-take (y ∷ xs) (suc n) zero x e = (omega arith, e)
get-take (y ∷ xs) (suc n) (suc q) x e = let h = get-take xs n q x e in (omega (arith, h.0), h.1)

-- the next index of a domain has a cell that is not there yet
pub next_is_new : (row : IndexedRow) (o : Option Value) (old : Changes) (is : List Index) (p : ℕ) (i : Index) → IsListedOnce is →
    changes cell_cmp old (cell_of row i) ≡ false → slice_get is p ≡ Some i
    → changes cell_cmp (old ++ set_all (map (cell_of row) (take p is)) o) (cell_of row i) ≡ false
next_is_new row o old is p i once fresh here =
    let other : (q : ℕ) → slice_get (take p is) q ≡ Some i → ⊥ = λ q e.
    let h = get-take is p q i e in
    let same : q ≡ p = once q p i h.1 here in
    absurd (omega (arith, h.0, same)) in
    changes-append old (set_all (map (cell_of row) (take p is)) o) (cell_of row i) ∙ rw (fresh, other_cells row o i (take p is) other) refl

pub take_more : {X : Type 0} (xs : List X) (p : ℕ) (x : X) → slice_get xs p ≡ Some x → take (suc p) xs ≡ take p xs ++ x ∷ []
take_more [] zero x e = cc
take_more [] (suc p) x e = cc
take_more (y ∷ xs) zero x e = let h : y ≡ x = cc in ap (λ z. z ∷ []) h
take_more (y ∷ xs) (suc p) x e = ap (λ zs. y ∷ zs) (take_more xs p x e)

pub map-append : {X Y : Type 0} (f : X → Y) (xs ys : List X) → map f (xs ++ ys) ≡ map f xs ++ map f ys
map-append f [] ys = refl
map-append f (x ∷ xs) ys = ap (λ zs. f x ∷ zs) (map-append f xs ys)

-- one index more is one change more
pub grows : (row : IndexedRow) (o : Option Value) (is : List Index) (p : ℕ) (i : Index) → slice_get is p ≡ Some i →
    set_all (map (cell_of row) (take (p + 1) is)) o ≡ set_all (map (cell_of row) (take p is)) o ++ record { cell = cell_of row i; value = o } ∷ []
grows row o is p i here =
    ap (λ n. set_all (map (cell_of row) (take n is)) o) (add-one p)
    ∙ ap (λ js. set_all (map (cell_of row) js) o) (take_more is p i here)
    ∙ ap (λ cs. set_all cs o) (map-append (cell_of row) (take p is) (i ∷ []))
    ∙ map-append (λ c. record { cell = c; value = o }) (map (cell_of row) (take p is)) (cell_of row i ∷ [])

-- below the length something stands
pub nothing_there : {X : Type 0} (xs : List X) (p : ℕ) → p < length xs → slice_get xs p ≡ None → ⊥
nothing_there [] p low e = absurd (omega (arith, low))
nothing_there (x ∷ xs) zero low e = cc
nothing_there (x ∷ xs) (suc p) low e = nothing_there xs p (omega (arith, low)) e
