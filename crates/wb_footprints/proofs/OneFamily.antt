-- The cells of a run are of one family.
use Rattle.std.proofs.Common.{◌≡◌, ℕ, ℤ, ◌<◌, Bool, List, [], ◌∷◌, Option, map, length, get_or, refl, sym, ap, ◌∙◌, arith}
use Rattle.std.specs.List.{list_any}
use Rattle.selective_undo.specs.declared.Change.{Change}
use Rattle.wb_cells.specs.declared.cells.cell.Cell.{Cell}
use Rattle.wb_cells.specs.declared.cells.value.Value.{Value}
use Rattle.wb_cells.specs.declared.changes.row.IndexedRow.{IndexedRow}
use Rattle.wb_cells.specs.declared.changes.row.IndexedRow.TheVariants.{Inside, Members, Elements}
use Rattle.wb_cells.specs.declared.changes.run.RunForm.{RunForm}
use Rattle.wb_cells.specs.declared.changes.run.RunForm.TheVariants.{One, Rank1, Rank2, Rank3, Labels, Rectangle, Numbers}
use Rattle.wb_cells.specs.declared.values.index.Index.TheVariants.{Point, Text}
use Rattle.wb_cells.specs.Runs.{cell_of, change_at, packed_changes, labelled_at, labelled_changes, rectangle_entries, numbered_entries, changes_in}
use Rattle.wb_footprints.specs.declared.foot_index.FootIndex.{FootIndex}
use Rattle.wb_footprints.specs.declared.places.place.Place.{Place}
use Rattle.wb_footprints.specs.Places.{family, place_marked}
use Rattle.wb_footprints.specs.Footprints.{marked_family}
use Rattle.wb_footprints.proofs.Meeting.{any_like, any_map, at_family}
use Rattle.wb_footprints.proofs.ReadPlaces.{or_false}
use Rattle.wb_footprints.proofs.RunPlaces.{always}

module _ (g : Option Place → Bool) where
  -- changes made alike, each of one family
  made_alike : {X : Type 0} (h : X → Change Cell Value) (b : Bool) → ((e : X) → g (family (h e).cell) ≡ b) → (es : List X) (d : Change Cell Value) (c : Cell) →
      0 < length (map h es) → c ≡ (get_or (map h es) 0 d).cell → list_any (λ x. g (family x.cell)) (map h es) ≡ g (family c)
  made_alike h b is [] d c some first = let no : ⊥ = omega arith in absurd no
  made_alike h b is (e ∷ es) d c some first =
      any_map (λ x. g (family x.cell)) h (e ∷ es)
      ∙ any_like (λ y. g (family (h y).cell)) (λ y. b) (e ∷ es) is
      ∙ always b (e ∷ es) (omega arith)
      ∙ sym (ap (λ k. g (family k)) first ∙ is e)

  in_row : (row : IndexedRow) (es : List (List ℤ × Option ℤ)) (d : Change Cell Value) (c : Cell) → 0 < length (packed_changes row es) →
      c ≡ (get_or (packed_changes row es) 0 d).cell → list_any (λ x. g (family x.cell)) (packed_changes row es) ≡ g (family c)
  in_row (Inside n) = made_alike (change_at (Inside n)) (g (family (cell_of (Inside n) (Point [])))) (λ e. refl)
  in_row (Members n) = made_alike (change_at (Members n)) (g (family (cell_of (Members n) (Point [])))) (λ e. refl)
  in_row (Elements n) = made_alike (change_at (Elements n)) (g (family (cell_of (Elements n) (Point [])))) (λ e. refl)

  at_labels : (row : IndexedRow) (es : List (List ℕ × Option ℤ)) (d : Change Cell Value) (c : Cell) → 0 < length (labelled_changes row es) →
      c ≡ (get_or (labelled_changes row es) 0 d).cell → list_any (λ x. g (family x.cell)) (labelled_changes row es) ≡ g (family c)
  at_labels (Inside n) = made_alike (labelled_at (Inside n)) (g (family (cell_of (Inside n) (Text [])))) (λ e. refl)
  at_labels (Members n) = made_alike (labelled_at (Members n)) (g (family (cell_of (Members n) (Text [])))) (λ e. refl)
  at_labels (Elements n) = made_alike (labelled_at (Elements n)) (g (family (cell_of (Elements n) (Text [])))) (λ e. refl)

  pub one_family : (form : RunForm) (d : Change Cell Value) (c : Cell) → 0 < length (changes_in form) → c ≡ (get_or (changes_in form) 0 d).cell →
      list_any (λ x. g (family x.cell)) (changes_in form) ≡ g (family c)
  one_family (One x) d c some first = or_false (g (family x.cell)) ∙ ap (λ k. g (family k)) (sym first)
  one_family (Rank1 p) d c some first = in_row p.row p.changes.items d c some first
  one_family (Rank2 p) d c some first = in_row p.row p.changes.items d c some first
  one_family (Rank3 p) d c some first = in_row p.row p.changes.items d c some first
  one_family (Labels l) d c some first = at_labels l.0 l.1 d c some first
  one_family (Rectangle r) d c some first = in_row r.row (rectangle_entries r.ranges r.number) d c some first
  one_family (Numbers r) d c some first = in_row r.row (numbered_entries r.ranges r.numbers.items) d c some first

pub of_one_family : (m : FootIndex) (n : ℕ) (form : RunForm) (d : Change Cell Value) (c : Cell) → 0 < length (changes_in form) →
    c ≡ (get_or (changes_in form) 0 d).cell → list_any (λ x. marked_family m x.cell n) (changes_in form) ≡ marked_family m c n
of_one_family m n = one_family (at_family (λ f. place_marked m.read f n))
