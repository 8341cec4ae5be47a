-- How far a file is read.
use Rattle.std.specs.Prelude.{◌≡◌, ℕ, Bool, true, false, List, ◌∷◌, ◌++◌}
use Rattle.wb_keep.specs.Lines.{lines_of, counted, with_next}

-- The bytes are read up to those that are left: whatever is left, what counts of it is made this of.
pub record IsReadTo (bytes left : List ℕ) (made : List (List ℕ) → List (List ℕ)) : Type 0 where
  pub read : List ℕ
  pub split : bytes ≡ read ++ left
  pub counts : (rest : List ℕ) → counted (lines_of (read ++ rest)) ≡ made (counted (lines_of rest))

-- a line in front of those that count, which ends a batch or counts with the next
abbrev pub next_of : Bool → List ℕ → List (List ℕ) → List (List ℕ)
next_of true line lines = line ∷ lines
next_of false line lines = with_next line lines
