-- The marks of a cell are those of its place and of its family's.
use Rattle.std.proofs.Common.{◌≡◌, ℕ, Bool, true, ◌||◌, ◌==◌, Some, List, take, suc, ◌+◌, ◌<◌, length, get_or, add-one}
use Rattle.wb_cells.specs.declared.cells.cell.Cell.{Cell}
use Rattle.wb_cells.specs.declared.cells.pattern.Pattern.{Pattern}
use Rattle.wb_cells.specs.Cells.{Changes}
use Rattle.wb_footprints.specs.declared.places.place.Place.{Place}
use Rattle.wb_footprints.specs.Relation.{Sets, Stays, Clears}
use Rattle.wb_footprints.specs.Places.{own, place_of, is_same_place}
use Rattle.wb_footprints.specs.declared.places.marking.Marking.{Marking}
use Rattle.wb_footprints.specs.Footprints.{family_by, at_cell, marked_at, read_at}
use Rattle.wb_footprints.proofs.Setting.{then_sets, like, more_any, then_stays, stays_none, any_out, then_clears, clears_like}

module _ (o m n : Place → ℕ → Bool) (number : ℕ) (b : Bool) where
  pub cell_set : (by : Marking) (x : Cell) (p f : Place) → p ≡ own x → Some f ≡ family_by by x → Sets o m (is_same_place p) number b →
      Sets m n (is_same_place f) number b →
      Sets o n (at_cell by x) number b
  cell_set by x p f e g h k = like o n (λ q. is_same_place p q || is_same_place f q) (at_cell by x) number b (λ q. rw (e, ← g))
      (then_sets o m n (is_same_place p) (is_same_place f) number b h k)

  pub marked_more : (by : Marking) (xs : Changes) (i : ℕ) (d : _) → i < length xs → (x : Cell) → x ≡ (get_or xs i d).cell →
      Sets o m (marked_at by (take i xs)) number b →
      Sets m n (at_cell by x) number b → Sets o n (marked_at by (take (i + 1) xs)) number b
  marked_more by xs i d below x e h k = rw add-one (like o n (λ q. marked_at by (take i xs) q || at_cell by x q) (marked_at by (take (suc i) xs)) number b
      (λ q. rw e (more_any (λ y. at_cell by y.cell) xs i d below q)) (then_sets o m n (marked_at by (take i xs)) (at_cell by x) number b h k))

  pub read_more : (xs : List Pattern) (i : ℕ) (d : Pattern) → i < length xs → (p : Place) → p ≡ place_of (get_or xs i d) →
      Sets o m (read_at (take i xs)) number b → Sets m n (is_same_place p) number b → Sets o n (read_at (take (i + 1) xs)) number b
  read_more xs i d below p e h k = rw add-one (like o n (λ q. read_at (take i xs) q || is_same_place p q) (read_at (take (suc i) xs)) number b
      (λ q. rw e (more_any (λ y. is_same_place (place_of y)) xs i d below q)) (then_sets o m n (read_at (take i xs)) (is_same_place p) number b h k))

module _ (o m n : Place → ℕ → Bool) (number : ℕ) where
  pub marked_stays : (by : Marking) (xs : Changes) (i : ℕ) (d : _) → i < length xs → (x : Cell) → x ≡ (get_or xs i d).cell →
      Sets o m (marked_at by (take i xs)) number true →
      Stays m n (at_cell by x) number → Stays o n (marked_at by xs) number
  marked_stays by xs i d below x e h k = then_stays o m n (marked_at by (take i xs)) (at_cell by x) (marked_at by xs) number true h k
      (λ q j out. rw e (any_out (λ y. at_cell by y.cell) xs i d below q (number == j) out))

  pub read_stays : (xs : List Pattern) (i : ℕ) (d : Pattern) → i < length xs → (p : Place) → p ≡ place_of (get_or xs i d) →
      Sets o m (read_at (take i xs)) number true → ((q : Place) (j : ℕ) → n q j ≡ m q j) → Stays o n (read_at xs) number
  read_stays xs i d below p e h k = then_stays o m n (read_at (take i xs)) (is_same_place p) (read_at xs) number true h
      (stays_none m n (is_same_place p) number k) (λ q j out. rw e (any_out (λ y. is_same_place (place_of y)) xs i d below q (number == j) out))

module _ (o m n : Place → ℕ → Bool) (number : ℕ) where
  pub cell_cleared : (by : Marking) (x : Cell) (p f : Place) → p ≡ own x → Some f ≡ family_by by x → Clears o m (is_same_place p) number →
      Clears m n (is_same_place f) number →
      Clears o n (at_cell by x) number
  cell_cleared by x p f e g h k = clears_like o n (λ q. is_same_place p q || is_same_place f q) (at_cell by x) number (λ q. rw (e, ← g))
      (then_clears o m n (is_same_place p) (is_same_place f) number h k)

  pub marked_cleared : (by : Marking) (xs : Changes) (i : ℕ) (d : _) → i < length xs → (x : Cell) → x ≡ (get_or xs i d).cell →
      Clears o m (marked_at by (take i xs)) number →
      Clears m n (at_cell by x) number → Clears o n (marked_at by (take (i + 1) xs)) number
  marked_cleared by xs i d below x e h k = rw add-one (clears_like o n (λ q. marked_at by (take i xs) q || at_cell by x q)
      (marked_at by (take (suc i) xs)) number
      (λ q. rw e (more_any (λ y. at_cell by y.cell) xs i d below q)) (then_clears o m n (marked_at by (take i xs)) (at_cell by x) number h k))

  pub read_cleared : (xs : List Pattern) (i : ℕ) (d : Pattern) → i < length xs → (p : Place) → p ≡ place_of (get_or xs i d) →
      Clears o m (read_at (take i xs)) number → Clears m n (is_same_place p) number → Clears o n (read_at (take (i + 1) xs)) number
  read_cleared xs i d below p e h k = rw add-one (clears_like o n (λ q. read_at (take i xs) q || is_same_place p q) (read_at (take (suc i) xs)) number
      (λ q. rw e (more_any (λ y. is_same_place (place_of y)) xs i d below q)) (then_clears o m n (read_at (take i xs)) (is_same_place p) number h k))
