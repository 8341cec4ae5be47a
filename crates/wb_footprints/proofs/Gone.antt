-- Where a number stands at no cell of a row.
use Rattle.std.proofs.Common.{◌≡◌, ℕ, Bool, true, false, ◌&&◌, ◌||◌, Option, Some, None, refl, sym, ap, ◌∙◌}
use Rattle.std.specs.Ordering.{is_eq}
use Rattle.std.specs.declared.cmp.Ordering.{Ordering}
use Rattle.std.specs.declared.cmp.Ordering.TheVariants.{Less, Equal, Greater}
use Rattle.wb_cells.specs.declared.cells.cell.Cell.{Cell}
use Rattle.wb_cells.specs.declared.values.index.Index.{Index}
use Rattle.wb_cells.specs.Cells.{is_same_name, is_same_index, index_cmp, same_names, index_cmp-IsAntisymmetric}
use Rattle.wb_cells.specs.declared.changes.row.RowKind.{RowKind}
use Rattle.wb_cells.specs.declared.changes.row.RowKind.TheVariants as k
use Rattle.wb_cells.specs.Runs.{cell_of, name_of_row, kind_of_row}
use Rattle.wb_cells.specs.declared.changes.row.IndexedRow.{IndexedRow}
use Rattle.wb_footprints.specs.declared.places.part.Part.{Part}
use Rattle.wb_footprints.specs.declared.places.part.Part.TheVariants as part
use Rattle.wb_footprints.specs.declared.places.place.Place.{Place}
use Rattle.wb_footprints.specs.declared.places.place.Place.TheVariants.{Objects, Of}
use Rattle.wb_footprints.specs.declared.marks.place_marks.PlaceMarks.{PlaceMarks}
use Rattle.wb_footprints.specs.Parts.{part_at, is_same_part}
use Rattle.wb_footprints.specs.ObjectParts.{object_marked}
use Rattle.wb_footprints.specs.Places.{own, family, is_same_place, place_marked}
use Rattle.wb_footprints.specs.declared.places.marking.Marking.{Marking}
use Rattle.wb_footprints.specs.declared.places.marking.Marking.TheVariants.{Own, Families}
use Rattle.wb_footprints.specs.Footprints.{family_by, at_cell}
use Rattle.wb_footprints.proofs.Setting.{either}
use Rattle.wb_footprints.proofs.RunPlaces.{own_at}

pub neither : (a b : Bool) → a ≡ false → b ≡ false → a || b ≡ false
neither true b e f = cc
neither false b e f = f

or_last : (a b : Bool) → b ≡ true → a || b ≡ true
or_last true b e = refl
or_last false b e = e

both : (a b : Bool) → a && b ≡ true → (a ≡ true) × (b ≡ true)
both true b e = (refl, e)
both false b e = cc

equal_from : (p : Ordering) → is_eq p ≡ true → p ≡ Equal
equal_from Less e = cc
equal_from Equal e = refl
equal_from Greater e = cc

-- ---- what is one with the place of such a cell is that place

same_index : (x y : Index) → is_same_index x y ≡ true → y ≡ x
same_index x y e = sym (index_cmp-IsAntisymmetric x y (equal_from (index_cmp x y) e))

same_part : (kind : RowKind) (p : Index) (x : Part) → is_same_part (part_at kind p) x ≡ true → x ≡ part_at kind p
same_part k.Inside p (part.In j) e = ap part.In (same_index p j e)
same_part k.Inside p (part.Slot s) e = cc
same_part k.Inside p (part.Member j) e = cc
same_part k.Inside p (part.User u) e = cc
same_part k.Inside p (part.Element j) e = cc
same_part k.Members p (part.Member j) e = ap part.Member (same_index p j e)
same_part k.Members p (part.Slot s) e = cc
same_part k.Members p (part.In j) e = cc
same_part k.Members p (part.User u) e = cc
same_part k.Members p (part.Element j) e = cc
same_part k.Elements p (part.Element j) e = ap part.Element (same_index p j e)
same_part k.Elements p (part.Slot s) e = cc
same_part k.Elements p (part.In j) e = cc
same_part k.Elements p (part.User u) e = cc
same_part k.Elements p (part.Member j) e = cc

module _ (m : PlaceMarks) (number : ℕ) (row : IndexedRow)
    (h : (p : Index) → object_marked m.parts (name_of_row row, part_at (kind_of_row row) p) number ≡ false) where
  clear_at : (p : Index) (q : Place) → is_same_place (Of (name_of_row row) (part_at (kind_of_row row) p)) q ≡ true → place_marked m q number ≡ false
  clear_at p Objects here = cc
  clear_at p (Of e x) here =
      let parts = both (is_same_name (name_of_row row) e) (is_same_part (part_at (kind_of_row row) p) x) here in
      let name : name_of_row row ≡ e = same_names (name_of_row row) e (equal_from _ parts.0) in
      rw (← name, same_part (kind_of_row row) p x parts.1) (h p)

  pub place_clear : (p : Index) (q : Place) → is_same_place (own (cell_of row p)) q ≡ true → place_marked m q number ≡ false
  place_clear p q here = clear_at p q (ap (λ o. is_same_place o q) (sym (own_at row p)) ∙ here)

-- ---- a row, and what is left to take away of it

abbrev at_family : Option Place → Place → Bool
at_family o q = elim o [ Some f ↦ is_same_place f q | None ↦ false ]

one_family : (by : Marking) (x y : Cell) → family x ≡ family y → family_by by x ≡ family_by by y
one_family Own x y e = refl
one_family Families x y e = e

module _ (m : Place → ℕ → Bool) (number : ℕ) where
  -- from one of its cells it was taken away, and so from their family
  pub row_gone : (by : Marking) (row : IndexedRow) (x : Cell) → ((p : Index) → family (cell_of row p) ≡ family x) →
      ((p : Index) (q : Place) → is_same_place (own (cell_of row p)) q ≡ true → m q number ≡ false) →
      ((q : Place) → at_cell by x q ≡ true → m q number ≡ false) → (p : Index) (q : Place) → at_cell by (cell_of row p) q ≡ true → m q number ≡ false
  row_gone by row x fam clear gone p q here =
      let its = is_same_place (own (cell_of row p)) q in
      let other = at_family (family_by by (cell_of row p)) q in
      let same = one_family by (cell_of row p) x (fam p) in
      either its other (m q number ≡ false) (clear p q)
      (λ f. gone q (or_last (is_same_place (own x) q) (at_family (family_by by x) q) (ap (λ o. at_family o q) (sym same) ∙ f))) here
