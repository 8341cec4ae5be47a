-- Changes at the indices of a rectangle: what stands at a place of them, and that they change each cell once.
use Rattle.std.proofs.Common.{◌≡◌, ℕ, zero, suc, ◌<◌, ◌≤◌, ℤ, false, List, [], ◌∷◌, ◌++◌, map, Result, Ok, Err, OnOk, OnErr, Option, Some, refl, sym, ap, ◌∙◌}
use Rattle.std.proofs.Common.{length, slice_get, subst, append_assoc, arith, min}
use Rattle.std.specs.List.{zip}
use Rattle.std.specs.Prelude.{option_map}
use Rattle.std.specs.Ordering.{eq_by_cmp}
use Rattle.std.specs.Cmp.{Equal-is}
use Rattle.std.proofs.Math.Nat.{min-eq_left, min-eq_right, min-le_left, min-le_right}
use Rattle.std.proofs.lemmas.List.{length-map}
use Rattle.std.proofs.lemmas.Option.{slice_get-map}
use Rattle.std.proofs.lemmas.Slice.Zip.{length-zip}
use Rattle.selective_undo.specs.Changes.{changes, AllOnce}
use Rattle.selective_undo.proofs.Changes.{not_true}
use Rattle.selective_undo.proofs.Log.{get-map}
use Rattle.wb_range.specs.Domain.{IsListedOnce}
use Rattle.wb_rect.specs.Product.{product}
use Rattle.wb_cells.specs.declared.cells.cell.Cell.{Cell}
use Rattle.wb_cells.specs.declared.cells.cell.Cell.TheVariants.{In, Member, Element}
use Rattle.wb_cells.specs.declared.changes.row.IndexedRow.{IndexedRow}
use Rattle.wb_cells.specs.declared.changes.row.IndexedRow.TheVariants.{Inside, Members, Elements}
use Rattle.wb_cells.specs.declared.values.index.Index.{Index}
use Rattle.wb_cells.specs.declared.values.index.Index.TheVariants.{Point}
use Rattle.wb_cells.specs.Cells.{Changes, cell_cmp, cell_order}
use Rattle.wb_cells.specs.Runs.{cell_of, value_of, change_at, packed_changes, rectangle_entries, numbered_entries}
use Rattle.wb_cells.specs.Shapes.{indices}
use Rattle.wb_cells.proofs.Points.{point_there}
use Rattle.wb_cells.proofs.Shown.{last_of, once-push}

-- ---- how many

pub length_rectangle : (row : IndexedRow) (rs : List (List ℤ)) (n : Option ℤ) → length (packed_changes row (rectangle_entries rs n)) ≡ length (indices rs)
length_rectangle row rs n =
    length-map (rectangle_entries rs n) (change_at row) ∙ length-map (product rs) (λ p. (p, n)) ∙ sym (length-map (product rs) Point)

pub length_numbered : (row : IndexedRow) (rs : List (List ℤ)) (ns : List ℤ) →
    length (packed_changes row (numbered_entries rs ns)) ≡ min (length (indices rs)) (length ns)
length_numbered row rs ns =
    length-map (numbered_entries rs ns) (change_at row) ∙ length-zip (product rs) (map (λ n. Some n) ns)
    ∙ ap (λ k. min k (length (map (λ n. Some n) ns))) (sym (length-map (product rs) Point))
    ∙ ap (min (length (indices rs))) (length-map ns (λ n. Some n))

pub numbered_short : (row : IndexedRow) (rs : List (List ℤ)) (ns : List ℤ) → length ns ≤ length (indices rs) →
    length ns ≡ length (packed_changes row (numbered_entries rs ns))
numbered_short row rs ns few = sym (length_numbered row rs ns ∙ min-eq_right few)

pub numbered_full : (row : IndexedRow) (rs : List (List ℤ)) (ns : List ℤ) → length (indices rs) ≤ length ns →
    length (indices rs) ≡ length (packed_changes row (numbered_entries rs ns))
numbered_full row rs ns many = sym (length_numbered row rs ns ∙ min-eq_left many)

-- there are as many indices, and as many numbers, at least
pub numbered_within : (row : IndexedRow) (rs : List (List ℤ)) (ns : List ℤ) (at : ℕ) → at < length (packed_changes row (numbered_entries rs ns)) →
    (at < length (indices rs)) × (at < length ns)
numbered_within row rs ns at within =
    let n = length (indices rs) in
    let m = length ns in
    let e = length_numbered row rs ns in
    (omega (arith, within, e, min-le_left n m), omega (arith, within, e, min-le_right n m))

-- ---- places

get-zip : {K X : Type 0} → (ks : List K) (xs : List X) (i : ℕ) (k : K) (x : X) → slice_get ks i ≡ Some k → slice_get xs i ≡ Some x →
    slice_get (zip ks xs) i ≡ Some (k, x)
get-zip [] xs i k x e f = cc
get-zip (l ∷ ks) [] i k x e f = cc
get-zip (l ∷ ks) (y ∷ xs) zero k x e f =
    let a : l ≡ k = cc in
    let b : y ≡ x = cc in
    ap (λ z. Some (z, y)) a ∙ ap (λ z. Some (k, z)) b
get-zip (l ∷ ks) (y ∷ xs) (suc i) k x e f = get-zip ks xs i k x e f

entry_at : (row : IndexedRow) (es : List (List ℤ × Option ℤ)) (at : ℕ) (e : List ℤ × Option ℤ) → slice_get es at ≡ Some e →
    slice_get (packed_changes row es) at ≡ Some (change_at row e)
entry_at row es at e is = slice_get-map (change_at row) es at ∙ ap (option_map (change_at row)) is

-- what stands at a place of the changes of a rectangle
pub rectangle_at : (row : IndexedRow) (rs : List (List ℤ)) (n : Option ℤ) (at : ℕ) (i : Index) → slice_get (indices rs) at ≡ Some i →
    slice_get (packed_changes row (rectangle_entries rs n)) at ≡ Some (record { cell = cell_of row i; value = option_map (value_of row) n })
rectangle_at row rs n at i e =
    let p = point_there (slice_get (product rs) at) i (sym (get-map Point (product rs) at) ∙ e) in
    let here : slice_get (rectangle_entries rs n) at ≡ Some (p.0, n) = slice_get-map (λ q. (q, n)) (product rs) at ∙ ap (option_map (λ q. (q, n))) p.1 in
    entry_at row (rectangle_entries rs n) at (p.0, n) here
    ∙ ap (λ (j : Index). Some (record { cell = cell_of row j; value = option_map (value_of row) n })) p.2

-- the same of those with a number each
pub numbered_at : (row : IndexedRow) (rs : List (List ℤ)) (ns : List ℤ) (at : ℕ) (i : Index) (n : ℤ) → slice_get (indices rs) at ≡ Some i → slice_get ns at ≡ Some n →
    slice_get (packed_changes row (numbered_entries rs ns)) at ≡ Some (record { cell = cell_of row i; value = Some (value_of row n) })
numbered_at row rs ns at i n e f =
    let p = point_there (slice_get (product rs) at) i (sym (get-map Point (product rs) at) ∙ e) in
    let number : slice_get (map (λ m. Some m) ns) at ≡ Some (Some n) = slice_get-map (λ m. Some m) ns at ∙ ap (option_map (λ m. Some m)) f in
    entry_at row (numbered_entries rs ns) at (p.0, Some n) (get-zip (product rs) (map (λ m. Some m) ns) at p.0 (Some n) p.1 number)
    ∙ ap (λ (j : Index). Some (record { cell = cell_of row j; value = Some (value_of row n) })) p.2

-- ---- each cell once

later : (p : List ℤ) (ps : List (List ℤ)) → IsListedOnce (p ∷ ps) → IsListedOnce ps
later p ps once = λ i j x e f. let same : suc i ≡ suc j = once (suc i) (suc j) x e f in omega (arith, same)

unlike : (c d : Cell) → (c ≡ d → ⊥) → eq_by_cmp cell_cmp c d ≡ false
unlike c d other = not_true _ λ e. other (cell_order.strict c d ((Equal-is (cell_cmp c d)).0 e))

differs : (row : IndexedRow) (p q : List ℤ) → (q ≡ p → ⊥) → eq_by_cmp cell_cmp (cell_of row (Point q)) (cell_of row (Point p)) ≡ false
differs (Inside d) p q other = unlike _ _ λ (e : In d (Point q) ≡ In d (Point p)). other cc
differs (Members d) p q other = unlike _ _ λ (e : Member d (Point q) ≡ Member d (Point p)). other cc
differs (Elements a) p q other = unlike _ _ λ (e : Element a (Point q) ≡ Element a (Point p)). other cc

nothing_behind : (xs : Changes) → xs ≡ xs ++ []
nothing_behind [] = refl
nothing_behind (x ∷ xs) = ap (λ ys. x ∷ ys) (nothing_behind xs)

-- the cells of a row at some points, each of them once and none there yet
once_with : (xs : Changes) (row : IndexedRow) (es : List (List ℤ × Option ℤ)) → AllOnce cell_cmp xs → IsListedOnce (map (λ e. e.0) es) →
    ((q : ℕ) (p : List ℤ) → slice_get (map (λ e. e.0) es) q ≡ Some p → changes cell_cmp xs (cell_of row (Point p)) ≡ false) →
    AllOnce cell_cmp (xs ++ packed_changes row es)
once_with xs row [] once listed new = subst (AllOnce cell_cmp) (nothing_behind xs) once
once_with xs row (e ∷ es) once listed new =
    let x = change_at row e in
    let one = once-push xs x once (new zero e.0 refl) in
    let more : (q : ℕ) (p : List ℤ) → slice_get (map (λ e. e.0) es) q ≡ Some p → changes cell_cmp (xs ++ x ∷ []) (cell_of row (Point p)) ≡ false = λ q p f.
    let other = differs row e.0 p (λ same. let twice : zero ≡ suc q = listed zero (suc q) p (ap Some (sym same)) f in absurd (omega (arith, twice))) in
    last_of xs x (cell_of row (Point p)) ∙ rw (new (suc q) p f, other) refl in
    subst (AllOnce cell_cmp) (append_assoc xs (x ∷ []) (packed_changes row es))
    (once_with (xs ++ x ∷ []) row es one (later e.0 (map (λ e. e.0) es) listed) more)

-- points that are listed once as indices
of_indices : (ps : List (List ℤ)) → IsListedOnce (map Point ps) → IsListedOnce ps
of_indices ps once = λ i j p e f. once i j (Point p) (get-map Point ps i ∙ ap (option_map Point) e) (get-map Point ps j ∙ ap (option_map Point) f)

firsts-with : (n : Option ℤ) (ps : List (List ℤ)) → map (λ (e : List ℤ × Option ℤ). e.0) (map (λ p. (p, n)) ps) ≡ ps
firsts-with n [] = refl
firsts-with n (p ∷ ps) = ap (λ qs. p ∷ qs) (firsts-with n ps)

in_front : (ps : List (List ℤ)) (ms : List (Option ℤ)) (q : ℕ) (p : List ℤ) → slice_get (map (λ (e : List ℤ × Option ℤ). e.0) (zip ps ms)) q ≡ Some p →
    slice_get ps q ≡ Some p
in_front [] ms q p e = cc
in_front (x ∷ ps) [] q p e = cc
in_front (x ∷ ps) (m ∷ ms) zero p e = e
in_front (x ∷ ps) (m ∷ ms) (suc q) p e = in_front ps ms q p e

once-zip : (ps : List (List ℤ)) (ms : List (Option ℤ)) → IsListedOnce ps → IsListedOnce (map (λ (e : List ℤ × Option ℤ). e.0) (zip ps ms))
once-zip ps ms once = λ i j p e f. once i j p (in_front ps ms i p e) (in_front ps ms j p f)

-- changes at some points were added, or none was
once_packed : {E : Type 0} (r : Result (Unit {0}) E) (xs ys : Changes) (row : IndexedRow) (es : List (List ℤ × Option ℤ)) →
    OnOk r (ys ≡ xs ++ packed_changes row es) → OnErr r (ys ≡ xs) → AllOnce cell_cmp xs → IsListedOnce (map (λ e. e.0) es) →
    ((i : Index) → changes cell_cmp xs (cell_of row i) ≡ false) → AllOnce cell_cmp ys
once_packed (Ok u) xs ys row es ok err once listed new = rw ok (once_with xs row es once listed (λ q p e. new (Point p)))
once_packed (Err e) xs ys row es ok err once listed new = rw err once

pub once_rectangle : {E : Type 0} (r : Result (Unit {0}) E) (xs ys : Changes) (row : IndexedRow) (rs : List (List ℤ)) (n : Option ℤ) →
    OnOk r (ys ≡ xs ++ packed_changes row (rectangle_entries rs n)) → OnErr r (ys ≡ xs) → AllOnce cell_cmp xs → IsListedOnce (indices rs) →
    ((i : Index) → changes cell_cmp xs (cell_of row i) ≡ false) → AllOnce cell_cmp ys
once_rectangle r xs ys row rs n ok err once listed new =
    once_packed r xs ys row (rectangle_entries rs n) ok err once (subst IsListedOnce (sym (firsts-with n (product rs))) (of_indices (product rs) listed)) new

pub once_numbered : {E : Type 0} (r : Result (Unit {0}) E) (xs ys : Changes) (row : IndexedRow) (rs : List (List ℤ)) (ns : List ℤ) →
    OnOk r (ys ≡ xs ++ packed_changes row (numbered_entries rs ns)) → OnErr r (ys ≡ xs) → AllOnce cell_cmp xs → IsListedOnce (indices rs) →
    ((i : Index) → changes cell_cmp xs (cell_of row i) ≡ false) → AllOnce cell_cmp ys
once_numbered r xs ys row rs ns ok err once listed new =
    once_packed r xs ys row (numbered_entries rs ns) ok err once (once-zip (product rs) (map (λ n. Some n) ns) (of_indices (product rs) listed)) new
