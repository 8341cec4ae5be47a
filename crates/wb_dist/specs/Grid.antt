-- Grids of locales: the number of locales along each dimension. The locales are numbered row by row. Chapel Language
-- Specification, Domain Maps.
use Rattle.std.specs.Prelude.{ℕ, zero, suc, ◌+◌, ◌*◌, nat_le, Bool, ◌&&◌, ℤ, pos, int_le, List, [], ◌∷◌, map}
use Rattle.std.specs.List.{list_all}
use Rattle.wb_range.specs.Sequence.{or_zero}
use Rattle.wb_rect.specs.Product.{product}

-- how many locales the grid has
abbrev pub size_of_grid : List ℤ → ℕ
size_of_grid [] = 1
size_of_grid (n ∷ ns) = or_zero n * size_of_grid ns

-- the number of the locale with these coordinates: its row-major place
abbrev pub place : (grid : List ℤ) → (coordinates : List ℕ) → ℕ
place (n ∷ ns) (p ∷ ps) = p * size_of_grid ns + place ns ps
place _ _ = 0

-- each is at least 1
abbrev pub are_positive : List ℤ → Bool
are_positive ns = list_all (int_le (pos 1)) ns

-- a grid has a locale along each dimension, and at most 256 in all
abbrev pub is_grid : List ℤ → Bool
is_grid ns = are_positive ns && nat_le (size_of_grid ns) 256

-- the numbers first, first + 1, .., of which there are count
abbrev pub numbers_from : (first count : ℕ) → List ℕ
numbers_from k zero = []
numbers_from k (suc n) = k ∷ numbers_from (k + 1) n

-- the coordinates of all locales, in row-major order: `place` is the place in this list
abbrev pub points : (grid : List ℤ) → List (List ℕ)
points grid = product (map (λ n. numbers_from 0 (or_zero n)) grid)
