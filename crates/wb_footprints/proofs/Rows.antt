-- The cells of packed changes and of rectangles are of one row; and a number is taken away from the cells of a row.
use Rattle.std.proofs.Common.{◌≡◌, ℕ, ◌<◌, Bool, true, false, ◌||◌, ℤ, List, [], ◌∷◌, ◌++◌, Option, Some, None, length, map}
use Rattle.std.proofs.Common.{get_or, refl, sym, ap, ◌∙◌, arith}
use Rattle.std.specs.List.{list_any}
use Rattle.std.proofs.lemmas.List.{nil_from_length}
use Rattle.std.proofs.lemmas.List.Folds.{list_any-append}
use Rattle.selective_undo.specs.declared.Change.{Change}
use Rattle.wb_cells.specs.declared.cells.cell.Cell.{Cell}
use Rattle.wb_cells.specs.declared.cells.value.Value.{Value}
use Rattle.wb_cells.specs.declared.changes.row.IndexedRow.{IndexedRow}
use Rattle.wb_cells.specs.declared.changes.row.IndexedRow.TheVariants.{Inside, Members, Elements}
use Rattle.wb_cells.specs.declared.values.index.Index.TheVariants.{Point, Text}
use Rattle.wb_cells.specs.Cells.{Changes}
use Rattle.wb_cells.specs.Runs.{cell_of, packed_changes, labelled_changes, in_first}
use Rattle.wb_footprints.specs.declared.places.marking.Marking.{Marking}
use Rattle.wb_footprints.specs.declared.places.place.Place.{Place}
use Rattle.wb_footprints.specs.Relation.{Clears}
use Rattle.wb_cells.specs.declared.values.index.Index.{Index}
use Rattle.wb_footprints.specs.Places.{family}
use Rattle.wb_footprints.specs.Footprints.{at_cell, marked_at, cells_of, run_cells}
use Rattle.wb_footprints.specs.Rows.{AreOfRow, AreAt}
use Rattle.wb_footprints.proofs.Meeting.{any_map}
use Rattle.wb_footprints.proofs.Setting.{either, then_clears, clears_like, clears_none}
use Rattle.wb_footprints.proofs.ReadPlaces.{or_false}
use Rattle.wb_footprints.proofs.RunPlaces.{any_cell}

-- ---- which cells they are

pub packed_cells : (row : IndexedRow) (es : List (List ℤ × Option ℤ)) →
    cells_of (packed_changes row es) ≡ run_cells row (map Point (map (λ e. e.0) es))
packed_cells row [] = refl
packed_cells row (e ∷ es) = ap (λ cs. cell_of row (Point e.0) ∷ cs) (packed_cells row es)

pub labelled_cells : (row : IndexedRow) (es : List (List ℕ × Option ℤ)) →
    cells_of (labelled_changes row es) ≡ run_cells row (map Text (map (λ e. e.0) es))
labelled_cells row [] = refl
labelled_cells row (e ∷ es) = ap (λ cs. cell_of row (Text e.0) ∷ cs) (labelled_cells row es)

-- where cells are at some indices, and a test finds one of these where it finds one of others, the cells are at the others
pub cells_at : {X : Type 0} (xs : Changes) (row : IndexedRow) (make : X → Index) (from to : List X) → cells_of xs ≡ run_cells row (map make from) →
    ((f : X → Bool) → list_any f to ≡ list_any f from) → AreAt row (map make to) xs
cells_at xs row make from to is alike = λ f.
    let at = cell_of row in
    ap (list_any f) is
    ∙ any_map f at (map make from)
    ∙ any_map (λ x. f (at x)) make from
    ∙ sym (alike (λ x. f (at (make x))))
    ∙ sym (any_map (λ x. f (at x)) make to)
    ∙ sym (any_map f at (map make to))

pub firsts_of_rectangle : (n : Option ℤ) (ps : List (List ℤ)) → map (λ (e : List ℤ × Option ℤ). e.0) (map (λ p. (p, n)) ps) ≡ ps
firsts_of_rectangle n [] = refl
firsts_of_rectangle n (p ∷ ps) = ap (λ qs. p ∷ qs) (firsts_of_rectangle n ps)

-- ---- taking a number away

one_family : (row : IndexedRow) (p q : Index) → family (cell_of row p) ≡ family (cell_of row q)
one_family (Inside d) p q = refl
one_family (Members d) p q = refl
one_family (Elements d) p q = refl

first_in : (row : IndexedRow) (xs : Changes) (ps : List Index) (y : Change Cell Value) → cells_of xs ≡ run_cells row ps → 0 < length xs →
    (p : Index) → family (cell_of row p) ≡ family (get_or xs 0 y).cell
first_in row [] ps y e some p = absurd (omega arith)
first_in row (x ∷ xs) [] y e some p = cc
first_in row (x ∷ xs) (q ∷ ps) y e some p =
    let same : x.cell ≡ cell_of row q = cc in
    one_family row p q ∙ ap family (sym same)

-- the family of the first is that of all
pub first_family : (row : IndexedRow) (xs : Changes) → AreOfRow row xs → (x : Cell) → ((y : Change Cell Value) → x ≡ (get_or xs 0 y).cell) →
    0 < length xs → (p : Index) → family (cell_of row p) ≡ family x
first_family row xs h x e some p =
    let y : Change Cell Value = record { cell = x; value = None } in
    first_in row xs h.0 y h.1 some p ∙ ap family (sym (e y))

any_gone : {X : Type 0} (f : X → Bool) (P : Type 0) → ((x : X) → f x ≡ true → P) → (xs : List X) → list_any f xs ≡ true → P
any_gone f P h [] e = cc
any_gone f P h (x ∷ xs) e = either (f x) (list_any f xs) P (h x) (any_gone f P h xs) e

module _ (o n : Place → ℕ → Bool) (number : ℕ) where
  -- a number that stands at no cell of the row any more
  pub row_cleared : (by : Marking) (row : IndexedRow) (xs : Changes) (x : Cell) → AreOfRow row xs → Clears o n (at_cell by x) number →
      ((p : Index) (q : Place) → at_cell by (cell_of row p) q ≡ true → n q number ≡ false) → Clears o n (marked_at by xs) number
  row_cleared by row xs x h g clear = record {
    gone = λ q here. any_gone (λ p. at_cell by (cell_of row p) q) (n q number ≡ false) (λ p. clear p q) h.0
        (sym (any_cell (λ c. at_cell by c q) xs row h.0 (λ f. ap (list_any f) h.1)) ∙ here);
    fewer = g.fewer;
    others = g.others;
  }

module _ (o m n : Place → ℕ → Bool) (number : ℕ) where
  -- what is taken away before does not matter
  pub after_clears : (h g : Place → Bool) → Clears o m h number → Clears m n g number → Clears o n g number
  after_clears h g p q = record {
    gone = q.gone;
    fewer = λ a was. q.fewer a (p.fewer a was);
    others = λ a j other. q.others a j other ∙ p.others a j other;
  }

  pub joined_cleared : (by : Marking) (xs ys zs : Changes) → zs ≡ xs ++ ys → Clears o m (marked_at by xs) number → Clears m n (marked_at by ys) number →
      Clears o n (marked_at by zs) number
  joined_cleared by xs ys zs e h g = clears_like o n (λ q. marked_at by xs q || marked_at by ys q) (marked_at by zs) number
      (λ q. sym (ap (λ l. marked_at by l q) e ∙ list_any-append (λ x. at_cell by x.cell q) xs ys))
      (then_clears o m n (marked_at by xs) (marked_at by ys) number h g)

module _ (o : Place → ℕ → Bool) (number : ℕ) (by : Marking) where
  pub none_cleared : (xs : Changes) → length xs ≡ 0 → Clears o o (marked_at by xs) number
  none_cleared xs e = clears_like o o (λ q. false) (marked_at by xs) number (λ q. sym (ap (λ l. marked_at by l q) (nil_from_length xs e)))
      (clears_none o number)

  pub change_cleared : (n : Place → ℕ → Bool) (first : Option (Change Cell Value)) (x : Change Cell Value) (y : Cell) → first ≡ Some x → y ≡ x.cell →
      Clears o n (at_cell by y) number → Clears o n (marked_at by (in_first first)) number
  change_cleared n first x y e is h = clears_like o n (at_cell by y) (marked_at by (in_first first)) number
      (λ q. ap (λ z. at_cell by z q) is ∙ sym (or_false (at_cell by x.cell q)) ∙ sym (ap (λ f. marked_at by (in_first f) q) e)) h

  pub no_change : (first : Option (Change Cell Value)) → first ≡ None → Clears o o (marked_at by (in_first first)) number
  no_change first e = clears_like o o (λ q. false) (marked_at by (in_first first)) number (λ q. sym (ap (λ f. marked_at by (in_first f) q) e))
      (clears_none o number)
