-- what is kept in the fields of a mapping
use Rattle.std.specs.Prelude.{◌≡◌, ℕ, true, ℤ, List, length}
use Rattle.wb_dist.specs.Grid.{size_of_grid, is_grid}
use Rattle.wb_dist.specs.Maps.{low_corner, high_corner, is_box, is_rank}

-- the grid is one for the rank, with so many locales
pub record IsKeptGrid (rank : ℕ) (grid : List ℤ) (locales : ℕ) : Type 0 where
  pub good_rank : is_rank rank ≡ true
  pub good_grid : is_grid grid ≡ true
  pub counted : locales ≡ size_of_grid grid

-- the box is one of the rank, and these are its corners
pub record IsKeptBox (rank : ℕ) (box : List (List ℤ)) (low high : List ℤ) : Type 0 where
  pub rank_of_box : length box ≡ rank
  pub good_box : is_box box ≡ true
  pub low_is : low ≡ low_corner box
  pub high_is : high ≡ high_corner box
