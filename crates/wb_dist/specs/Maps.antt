-- Mappings of the indices of rectangular domains to locales. Chapel Language Specification, Domain Maps; the standard
-- distributions Block, Cyclic and Block-Cyclic. An index is the list of its coordinates.
use Rattle.std.specs.Prelude.{ℕ, ◌==◌, nat_le, Bool, true, ◌&&◌, false, ℤ, pos, List, [], ◌∷◌, map, length}
use Rattle.std.specs.List.{list_all}
use Rattle.std.specs.Ordering.{int_eq}
use Rattle.wb_range.specs.Steps.{stride_of}
use Rattle.wb_dist.specs.Axis.{block_coordinate, cyclic_coordinate, block_cyclic_coordinate}
use Rattle.wb_dist.specs.Grid.{size_of_grid, place, are_positive, is_grid}

-- ---- what a mapping is made of

-- a box, as the list of its ranges, cut into blocks
pub record BlockMap : Type 0 where
  pub box : List (List ℤ)
  pub grid : List ℤ

-- dealt out one by one from a start
pub record CyclicMap : Type 0 where
  pub start : List ℤ
  pub grid : List ℤ

-- dealt out in blocks of a size from a start
pub record BlockCyclicMap : Type 0 where
  pub start : List ℤ
  pub size : List ℤ
  pub grid : List ℤ

-- one of these, or all on one locale
pub data LayoutMap : Type 0 where
  whole : LayoutMap
  block : BlockMap → LayoutMap
  cyclic : CyclicMap → LayoutMap
  block_cyclic : BlockCyclicMap → LayoutMap

-- ---- the corners of a box

-- the first element, and 0 where there is none
abbrev pub first_of : List ℤ → ℤ
first_of [] = pos 0
first_of (x ∷ xs) = x

-- the last element, and 0 where there is none
abbrev pub last_of : List ℤ → ℤ
last_of [] = pos 0
last_of (x ∷ []) = x
last_of (x ∷ (y ∷ xs)) = last_of (y ∷ xs)

-- the first index of each range
abbrev pub low_corner : List (List ℤ) → List ℤ
low_corner box = map first_of box

-- the last index of each range
abbrev pub high_corner : List (List ℤ) → List ℤ
high_corner box = map last_of box

-- ---- the locale of an index

-- each dimension by itself: the coordinates of the locale on the grid, for a box with these corners
abbrev pub block_coordinates : (low high grid is : List ℤ) → List ℕ
block_coordinates (l ∷ ls) (h ∷ hs) (n ∷ ns) (i ∷ is) = block_coordinate l h n i ∷ block_coordinates ls hs ns is
block_coordinates _ _ _ _ = []

-- the same from a start on
abbrev pub cyclic_coordinates : (start grid is : List ℤ) → List ℕ
cyclic_coordinates (s ∷ ss) (n ∷ ns) (i ∷ is) = cyclic_coordinate s n i ∷ cyclic_coordinates ss ns is
cyclic_coordinates _ _ _ = []

-- the same from a start on, in blocks of the sizes
abbrev pub block_cyclic_coordinates : (start size grid is : List ℤ) → List ℕ
block_cyclic_coordinates (s ∷ ss) (b ∷ bs) (n ∷ ns) (i ∷ is) =
    block_cyclic_coordinate s b n i ∷ block_cyclic_coordinates ss bs ns is
block_cyclic_coordinates _ _ _ _ = []

-- the number of that locale
abbrev pub block_locale_of : BlockMap → List ℤ → ℕ
block_locale_of m is = place m.grid (block_coordinates (low_corner m.box) (high_corner m.box) m.grid is)

abbrev pub cyclic_locale_of : CyclicMap → List ℤ → ℕ
cyclic_locale_of m is = place m.grid (cyclic_coordinates m.start m.grid is)

abbrev pub block_cyclic_locale_of : BlockCyclicMap → List ℤ → ℕ
block_cyclic_locale_of m is = place m.grid (block_cyclic_coordinates m.start m.size m.grid is)

-- the locale on which a mapping puts an index
abbrev pub locale_of : LayoutMap → List ℤ → ℕ
locale_of whole is = 0
locale_of (block m) is = block_locale_of m is
locale_of (cyclic m) is = cyclic_locale_of m is
locale_of (block_cyclic m) is = block_cyclic_locale_of m is

-- ---- how many locales there are

abbrev pub locale_count_of : LayoutMap → ℕ
locale_count_of whole = 1
locale_count_of (block m) = size_of_grid m.grid
locale_count_of (cyclic m) = size_of_grid m.grid
locale_count_of (block_cyclic m) = size_of_grid m.grid

-- ---- which mappings there are

-- the range has an index
abbrev pub is_filled : List ℤ → Bool
is_filled [] = false
is_filled (x ∷ xs) = true

-- the range has stride 1
abbrev pub has_unit_stride : List ℤ → Bool
has_unit_stride xs = int_eq (stride_of xs) (pos 1)

-- no range of the box is empty, and each has stride 1
abbrev pub is_box : List (List ℤ) → Bool
is_box box = list_all is_filled box && list_all has_unit_stride box

-- from 1 to 3 dimensions
abbrev pub is_rank : ℕ → Bool
is_rank rank = nat_le 1 rank && nat_le rank 3

-- a mapping by blocks, for domains of the rank
abbrev pub is_block : (rank : ℕ) → BlockMap → Bool
is_block rank m = is_rank rank && (length m.box == rank) && (length m.grid == rank) && is_box m.box && is_grid m.grid

-- a cyclic mapping, for domains of the rank
abbrev pub is_cyclic : (rank : ℕ) → CyclicMap → Bool
is_cyclic rank m = is_rank rank && (length m.start == rank) && (length m.grid == rank) && is_grid m.grid

-- a block-cyclic mapping, for domains of the rank: a block holds at least one index
abbrev pub is_block_cyclic : (rank : ℕ) → BlockCyclicMap → Bool
is_block_cyclic rank m =
    is_rank rank && (length m.start == rank) && (length m.size == rank) && (length m.grid == rank)
    && are_positive m.size && is_grid m.grid

-- a mapping for domains of the rank; the one that keeps all on one locale is for every rank
abbrev pub is_layout : (rank : ℕ) → LayoutMap → Bool
is_layout rank whole = is_rank rank
is_layout rank (block m) = is_block rank m
is_layout rank (cyclic m) = is_cyclic rank m
is_layout rank (block_cyclic m) = is_block_cyclic rank m
