-- Marks at keys, one after another: a number that is set, or that none is there.
use Rattle.std.specs.Prelude.{◌≡◌, ℤ, Bool, true, List, [], ◌∷◌, map, Option, Some, None}
use Rattle.wb_cells.specs.declared.values.index.Index.{Index}
use Rattle.wb_elements.specs.Piecewise.Changed.{changed_at}

module _ {I : Type 0} where
  -- the marks as changes of elements
  abbrev pub as_changes : (I → Index) → List (I × Option ℤ) → List (Index × Option ℤ)
  as_changes f ms = map (λ m. (f m.0, m.1)) ms

  -- what the marks leave at an index where nothing was
  abbrev pub marked_at : (I → Index) → List (I × Option ℤ) → Index → Option ℤ
  marked_at f ms i = changed_at (as_changes f ms) None i

  -- each index has the form
  abbrev pub AllMarked : (I → Index) → (Index → Bool) → List (I × Option ℤ) → Type 0
  AllMarked f is_of [] = Unit {0}
  AllMarked f is_of (m ∷ ms) = (is_of (f m.0) ≡ true) × AllMarked f is_of ms

  -- with a number in front, if one is set
  abbrev pub with_number : I → Option ℤ → List (I × ℤ) → List (I × ℤ)
  with_number k None es = es
  with_number k (Some v) es = (k, v) ∷ es

  -- the numbers that are set, each after its key
  abbrev pub numbers_of : List (I × Option ℤ) → List (I × ℤ)
  numbers_of [] = []
  numbers_of (m ∷ ms) = with_number m.0 m.1 (numbers_of ms)
