-- the canonical spelling of a range, by its bounds and its stride (this repository's own: each
-- sequence has one)
use Rattle.std.specs.Prelude.{◌≡◌, ◌≢◌, ℤ, pos, List, [], ◌∷◌, None}
use Rattle.std.specs.List.{fold}
use Rattle.std.specs.Int.{int_min, int_max}
use Rattle.wb_range.specs.Sequence.{sequence, IsWithinLimits}

-- the least and the greatest index, and 1 and 0 where there is none
abbrev pub bounds_of : List ℤ → ℤ × ℤ
bounds_of [] = (pos 1, pos 0)
bounds_of (x ∷ xs) = (fold int_min x xs, fold int_max x xs)

-- xs is the sequence of a range within the limits
pub record IsRange (xs : List ℤ) : Type 0 where
  pub low : ℤ
  pub high : ℤ
  pub stride : ℤ
  pub nonzero : stride ≢ pos 0
  pub is : xs ≡ sequence low high stride None
  pub limits : IsWithinLimits low high stride None
