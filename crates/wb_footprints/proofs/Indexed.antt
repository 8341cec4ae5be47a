-- What a block does to the marks of indices.
use Rattle.std.proofs.Common.{◌≡◌, ℕ, Bool, true, false, ◌&&◌, ◌||◌, ◌==◌, if◌then◌else◌, List, map, refl, ap, ◌∙◌}
use Rattle.std.specs.Cmp.Lexicographic.{slice_cmp}
use Rattle.std.specs.List.{list_any}
use Rattle.std.specs.Ordering.{nat_cmp}
use Rattle.wb_cells.specs.declared.values.index.Index.{Index}
use Rattle.wb_cells.specs.declared.values.index.Index.TheVariants as i
use Rattle.wb_footprints.specs.declared.marks.index_marks.IndexMarks.{IndexMarks}
use Rattle.wb_footprints.specs.Relation.{Sets}
use Rattle.wb_footprints.specs.Marks.{marked}
use Rattle.wb_footprints.specs.PointMarks.{point_marked}
use Rattle.wb_footprints.specs.Indices.{in_indices}
use Rattle.wb_footprints.specs.Points.{Coordinates}
use Rattle.wb_footprints.specs.Reaches.{in_reaches}
use Rattle.wb_footprints.specs.Texts.{Text}
use Rattle.wb_footprints.specs.Parts.{alone_marked, index_marked}
use Rattle.wb_footprints.proofs.Meeting.{any_map}

with_hit : (m h x : Bool) → m || (if h then true else x) ≡ (if h then true else (m || x))
with_hit true true x = refl
with_hit true false x = refl
with_hit false h x = refl

module _ (old new : IndexMarks) (is : List Index) (number : ℕ) (points : new.points ≡ old.points) (texts : new.texts ≡ old.texts) (done : Bool)
    (h : Sets (in_reaches old.blocks.reaches.items) (in_reaches new.blocks.reaches.items) (λ x. done && in_indices is x) number true) where
  alone_same : (x : Index) (n : ℕ) → alone_marked new x n ≡ alone_marked old x n
  alone_same (i.Point p) n = ap (λ m. point_marked m p n) points
  alone_same (i.Text t) n = ap (λ m. marked (slice_cmp nat_cmp) m t n) texts

  added_at : (x : Index) (n : ℕ) → index_marked new x n ≡ (if (done && in_indices is x) && (number == n) then true else index_marked old x n)
  added_at x n =
      ap (λ b. b || in_reaches new.blocks.reaches.items x n) (alone_same x n)
      ∙ ap (λ b. alone_marked old x n || b) (h.at x n)
      ∙ with_hit (alone_marked old x n) ((done && in_indices is x) && (number == n)) (in_reaches old.blocks.reaches.items x n)

  pub block_added : Sets (index_marked old) (index_marked new) (λ x. done && in_indices is x) number true
  block_added = record { at = added_at }

-- ---- those that stand alone

pub none_alone : (m : IndexMarks) → ((p : Coordinates) (n : ℕ) → point_marked m.points p n ≡ false) →
    ((t : Text) (n : ℕ) → marked (slice_cmp nat_cmp) m.texts t n ≡ false) → (x : Index) (n : ℕ) → alone_marked m x n ≡ false
none_alone m h g (i.Point p) n = h p n
none_alone m h g (i.Text t) n = g t n

pub points_alone : (m : IndexMarks) (is : List Index) (ps : List Coordinates) → is ≡ map i.Point ps → (n : ℕ) →
    list_any (λ x. alone_marked m x n) is ≡ list_any (λ p. point_marked m.points p n) ps
points_alone m is ps e n = ap (list_any (λ x. alone_marked m x n)) e ∙ any_map (λ x. alone_marked m x n) i.Point ps

pub texts_alone : (m : IndexMarks) (is : List Index) (ts : List Text) → is ≡ map i.Text ts → (n : ℕ) →
    list_any (λ x. alone_marked m x n) is ≡ list_any (λ t. marked (slice_cmp nat_cmp) m.texts t n) ts
texts_alone m is ts e n = ap (list_any (λ x. alone_marked m x n)) e ∙ any_map (λ x. alone_marked m x n) i.Text ts
