-- A run of cells: their own places, and that of their family.
use Rattle.std.proofs.Common.{◌≡◌, ℕ, ◌<◌, Bool, true, false, ◌&&◌, ◌||◌, ◌==◌, Option, Some}
use Rattle.std.proofs.Common.{None, List, [], ◌∷◌, length, refl, sym}
use Rattle.std.proofs.Common.{ap, ◌∙◌, arith}
use Rattle.std.specs.List.{list_any}
use Rattle.wb_cells.specs.declared.cells.cell.Cell.{Cell}
use Rattle.wb_cells.specs.Cells.{Changes, is_same_name}
use Rattle.wb_cells.specs.declared.changes.row.RowKind.{RowKind}
use Rattle.wb_cells.specs.declared.changes.row.RowKind.TheVariants as k
use Rattle.wb_cells.specs.Runs.{cell_of, name_of_row, kind_of_row}
use Rattle.wb_cells.specs.declared.changes.row.IndexedRow.{IndexedRow}
use Rattle.wb_cells.specs.declared.changes.row.IndexedRow.TheVariants.{Inside, Members, Elements}
use Rattle.wb_footprints.specs.declared.places.part.Part.{Part}
use Rattle.wb_footprints.specs.declared.places.part.Part.TheVariants as part
use Rattle.wb_footprints.specs.declared.places.place.Place.{Place}
use Rattle.wb_footprints.specs.declared.places.place.Place.TheVariants.{Objects, Of}
use Rattle.wb_footprints.specs.Relation.{Sets, Stays}
use Rattle.wb_cells.specs.declared.values.index.Index.{Index}
use Rattle.wb_footprints.specs.Parts.{part_at, is_same_part, in_run}
use Rattle.wb_footprints.specs.Places.{own, is_same_place, in_places}
use Rattle.wb_footprints.specs.declared.places.marking.Marking.{Marking}
use Rattle.wb_footprints.specs.Rows.{AreAt}
use Rattle.wb_footprints.specs.Footprints.{family_by, marked_at, run_marked}
use Rattle.wb_footprints.proofs.Meeting.{any_or, any_like, any_none, any_map}
use Rattle.wb_footprints.proofs.Setting.{then_sets, like, then_stays, stays_none}

or_false : (a : Bool) → a || false ≡ a
or_false true = refl
or_false false = refl

-- what holds of one of the cells holds of one at one of the indices
pub any_cell : (f : Cell → Bool) (xs : Changes) (row : IndexedRow) (ps : List Index) → AreAt row ps xs →
    list_any (λ x. f x.cell) xs ≡ list_any (λ p. f (cell_of row p)) ps
any_cell f xs row ps e = sym (any_map f (λ x. x.cell) xs) ∙ e f ∙ any_map f (cell_of row) ps

and_each : {X : Type 0} (c : Bool) (f : X → Bool) (xs : List X) → list_any (λ x. c && f x) xs ≡ (c && list_any f xs)
and_each true f xs = refl
and_each false f xs = any_none xs

parts_in : (kind : RowKind) (ps : List Index) (x : Part) → list_any (λ p. is_same_part (part_at kind p) x) ps ≡ in_run kind ps x
parts_in k.Inside ps (part.In j) = refl
parts_in k.Inside ps (part.Slot s) = any_none ps
parts_in k.Inside ps (part.Member j) = any_none ps
parts_in k.Inside ps (part.User u) = any_none ps
parts_in k.Inside ps (part.Element j) = any_none ps
parts_in k.Members ps (part.In j) = any_none ps
parts_in k.Members ps (part.Slot s) = any_none ps
parts_in k.Members ps (part.Member j) = refl
parts_in k.Members ps (part.User u) = any_none ps
parts_in k.Members ps (part.Element j) = any_none ps
parts_in k.Elements ps (part.In j) = any_none ps
parts_in k.Elements ps (part.Slot s) = any_none ps
parts_in k.Elements ps (part.Member j) = any_none ps
parts_in k.Elements ps (part.User u) = any_none ps
parts_in k.Elements ps (part.Element j) = refl

pub own_at : (row : IndexedRow) (p : Index) → own (cell_of row p) ≡ Of (name_of_row row) (part_at (kind_of_row row) p)
own_at (Inside d) p = refl
own_at (Members d) p = refl
own_at (Elements d) p = refl

places_in : (row : IndexedRow) (ps : List Index) (q : Place) →
    list_any (λ p. is_same_place (Of (name_of_row row) (part_at (kind_of_row row) p)) q) ps ≡ in_places row ps q
places_in row ps Objects = any_none ps
places_in row ps (Of e x) =
    let same = is_same_name (name_of_row row) e in
    and_each same (λ p. is_same_part (part_at (kind_of_row row) p) x) ps ∙ ap (λ b. same && b) (parts_in (kind_of_row row) ps x)

owns_in : (row : IndexedRow) (ps : List Index) (q : Place) → list_any (λ p. is_same_place (own (cell_of row p)) q) ps ≡ in_places row ps q
owns_in row ps q = any_like (λ p. is_same_place (own (cell_of row p)) q) (λ p. is_same_place (Of (name_of_row row) (part_at (kind_of_row row) p)) q) ps
    (λ p. ap (λ o. is_same_place o q) (own_at row p)) ∙ places_in row ps q

abbrev at_family : Option Place → Place → Bool
at_family o q = elim o [ Some f ↦ is_same_place f q | None ↦ false ]

pub always : {X : Type 0} (b : Bool) (xs : List X) → 0 < length xs → list_any (λ x. b) xs ≡ b
always b [] l = let no : ⊥ = omega arith in absurd no
always true (x ∷ xs) l = refl
always false (x ∷ xs) l = any_none xs

pub run_is : (m : Marking) (row : IndexedRow) (ps : List Index) (o : Option Place) → ((p : Index) → o ≡ family_by m (cell_of row p)) →
    0 < length ps → (q : Place) → run_marked m row ps q ≡ (in_places row ps q || at_family o q)
run_is m row ps o h some q =
    any_or (λ p. is_same_place (own (cell_of row p)) q) (λ p. at_family (family_by m (cell_of row p)) q) ps
    ∙ ap (λ b. b || list_any (λ p. at_family (family_by m (cell_of row p)) q) ps) (owns_in row ps q)
    ∙ ap (λ b. in_places row ps q || b) (any_like (λ p. at_family (family_by m (cell_of row p)) q) (λ p. at_family o q) ps
    (λ p. ap (λ f. at_family f q) (sym (h p))) ∙ always (at_family o q) ps some)

-- ---- marks of a run

module _ (by : Marking) (o m n : Place → ℕ → Bool) (number : ℕ) where
  module _ (row : IndexedRow) (ps : List Index) (xs : Changes) (some : 0 < length ps) (t : (q : Place) →
      marked_at by xs q ≡ run_marked by row ps q)
      (h : Sets o m (in_places row ps) number true) where
    pub row_alone : ((p : Index) → None ≡ family_by by (cell_of row p)) → Sets o m (marked_at by xs) number true
    row_alone fam = like o m (in_places row ps) (marked_at by xs) number true
        (λ q. sym (t q ∙ run_is by row ps None fam some q ∙ or_false (in_places row ps q))) h

    module _ (f : Place) (fam : (p : Index) → Some f ≡ family_by by (cell_of row p)) where
      whole : (q : Place) → (in_places row ps q || is_same_place f q) ≡ marked_at by xs q
      whole q = sym (t q ∙ run_is by row ps (Some f) fam some q)

      pub row_done : Sets m n (is_same_place f) number true → Sets o n (marked_at by xs) number true
      row_done k = like o n (λ q. in_places row ps q || is_same_place f q) (marked_at by xs) number true whole
          (then_sets o m n (in_places row ps) (is_same_place f) number true h k)

      pub row_failed : ((q : Place) (j : ℕ) → n q j ≡ m q j) → Stays o n (marked_at by xs) number
      row_failed same = then_stays o m n (in_places row ps) (is_same_place f) (marked_at by xs) number true h (stays_none m n (is_same_place f) number same)
          (λ q j out. ap (λ b. b && (number == j)) (whole q) ∙ out)
