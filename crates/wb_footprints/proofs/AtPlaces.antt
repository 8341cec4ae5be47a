-- What a write at the part of an object does to the marks of all places.
use Rattle.std.proofs.Common.{◌≡◌, ℕ, Bool, true, false, ◌&&◌, ◌==◌, if◌then◌else◌, List, ap, ◌∙◌}
use Rattle.std.specs.Ordering.{bool_cmp}
use Rattle.wb_cells.specs.Runs.{name_of_row, kind_of_row}
use Rattle.wb_cells.specs.declared.changes.row.IndexedRow.{IndexedRow}
use Rattle.wb_footprints.specs.declared.places.part.Part.{Part}
use Rattle.wb_cells.specs.declared.values.index.Index.{Index}
use Rattle.wb_footprints.specs.declared.places.place.Place.{Place}
use Rattle.wb_footprints.specs.declared.places.place.Place.TheVariants.{Objects, Of}
use Rattle.wb_footprints.specs.declared.marks.place_marks.PlaceMarks.{PlaceMarks}
use Rattle.wb_cells.specs.Cells.{Name}
use Rattle.wb_footprints.specs.Relation.{Sets, Clears}
use Rattle.wb_footprints.specs.Marks.{marked}
use Rattle.wb_footprints.specs.Parts.{ObjectPart}
use Rattle.wb_footprints.specs.ObjectParts.{object_marked, is_same_object_part, in_object_parts}
use Rattle.wb_footprints.specs.Places.{place_marked, is_same_place, in_places}

module _ (old new : PlaceMarks) (stay : new.objects ≡ old.objects) where
  of_at : (d : Name) (x : Part) (number : ℕ) (b : Bool) → Sets (object_marked old.parts) (object_marked new.parts) (is_same_object_part (d, x)) number b →
      (p : Place) (n : ℕ) → place_marked new p n ≡ (if is_same_place (Of d x) p && (number == n) then b else place_marked old p n)
  of_at d x number b h Objects n = ap (λ m. marked bool_cmp m true n) stay
  of_at d x number b h (Of e y) n = h.at (e, y) n

  pub of_set : (d : Name) (x : Part) (number : ℕ) (b : Bool) → Sets (object_marked old.parts) (object_marked new.parts) (is_same_object_part (d, x)) number b →
      Sets (place_marked old) (place_marked new) (is_same_place (Of d x)) number b
  of_set d x number b h = record { at = of_at d x number b h }

  block_at : (done : Bool) (row : IndexedRow) (ps : List Index) (number : ℕ) →
      Sets (object_marked old.parts) (object_marked new.parts) (λ s. done && in_object_parts (name_of_row row) (kind_of_row row) ps s) number true → (p : Place) (n : ℕ) →
      place_marked new p n ≡ (if (done && in_places row ps p) && (number == n) then true else place_marked old p n)
  block_at true row ps number h Objects n = ap (λ m. marked bool_cmp m true n) stay
  block_at false row ps number h Objects n = ap (λ m. marked bool_cmp m true n) stay
  block_at done row ps number h (Of e y) n = h.at (e, y) n

  pub of_block : (done : Bool) (row : IndexedRow) (ps : List Index) (number : ℕ) →
      Sets (object_marked old.parts) (object_marked new.parts) (λ s. done && in_object_parts (name_of_row row) (kind_of_row row) ps s) number true →
      Sets (place_marked old) (place_marked new) (λ q. done && in_places row ps q) number true
  of_block done row ps number h = record { at = block_at done row ps number h }

  module _ (d : Name) (x : Part) (number : ℕ) (h : Clears (object_marked old.parts) (object_marked new.parts) (is_same_object_part (d, x)) number) where
    of_gone : (p : Place) → is_same_place (Of d x) p ≡ true → place_marked new p number ≡ false
    of_gone Objects here = cc
    of_gone (Of e y) here = h.gone (e, y) here

    of_fewer : (p : Place) → place_marked old p number ≡ false → place_marked new p number ≡ false
    of_fewer Objects out = ap (λ m. marked bool_cmp m true number) stay ∙ out
    of_fewer (Of e y) out = h.fewer (e, y) out

    of_others : (p : Place) (n : ℕ) → (number == n) ≡ false → place_marked new p n ≡ place_marked old p n
    of_others Objects n other = ap (λ m. marked bool_cmp m true n) stay
    of_others (Of e y) n other = h.others (e, y) n other

    pub of_cleared : Clears (place_marked old) (place_marked new) (is_same_place (Of d x)) number
    of_cleared = record { gone = of_gone; fewer = of_fewer; others = of_others }

  pub of_same : ((s : ObjectPart) (n : ℕ) → object_marked new.parts s n ≡ object_marked old.parts s n) → (p : Place) (n : ℕ) → place_marked new p n ≡ place_marked old p n
  of_same h Objects n = ap (λ m. marked bool_cmp m true n) stay
  of_same h (Of d x) n = h (d, x) n

pub none_at : (m : PlaceMarks) → ((k : Bool) (n : ℕ) → marked bool_cmp m.objects k n ≡ false) → ((s : ObjectPart) (n : ℕ) → object_marked m.parts s n ≡ false) →
    (p : Place) (n : ℕ) → place_marked m p n ≡ false
none_at m h k Objects n = h true n
none_at m h k (Of d x) n = k (d, x) n
