-- The mappings that mapping literals stand for (Chapel Language Specification, Domain Maps).
use Rattle.std.specs.Prelude.{ℕ, ◌==◌, ℤ, List, [], ◌∷◌, length, Result, Ok, Err, if◌then◌else◌}
use Rattle.wb_dist.specs.Maps.{LayoutMap, whole, block, cyclic, block_cyclic, is_layout}
use Rattle.wb_literals.specs.declared.index.GridLiteral.{GridLiteral}
use Rattle.wb_literals.specs.declared.index.GridLiteral.TheVariants as grids
use Rattle.wb_literals.specs.declared.index.IndexLiteral.{IndexLiteral}
use Rattle.wb_literals.specs.declared.index.IndexLiteral.TheVariants.{Integer, Pair, Triple}
use Rattle.wb_literals.specs.declared.mapping.MappingLiteral.{MappingLiteral}
use Rattle.wb_literals.specs.declared.mapping.MappingLiteral.TheVariants.{Whole, Block, Cyclic, BlockCyclic}
use Rattle.wb_literals.specs.Limits.Literals.{◌>>=◌, domain_within}
use Rattle.wb_literals.specs.declared.limits.limit.LimitErr.{LimitErr}
use Rattle.wb_literals.specs.declared.limits.limit.LimitErr.TheVariants.{BadMapping}

-- the coordinates that a literal spells
abbrev pub coordinates_of : IndexLiteral → List ℤ
coordinates_of (Integer i) = i ∷ []
coordinates_of (Pair i j) = i ∷ j ∷ []
coordinates_of (Triple i j k) = i ∷ j ∷ k ∷ []

-- how many locales a literal spells along each dimension
abbrev pub counts_of : GridLiteral → List ℤ
counts_of (grids.Rank1 n) = n ∷ []
counts_of (grids.Rank2 n m) = n ∷ m ∷ []
counts_of (grids.Rank3 n m l) = n ∷ m ∷ l ∷ []

-- coordinates, if there are so many
abbrev pub of_rank : ℕ → List ℤ → Result (List ℤ) LimitErr
of_rank rank is = if length is == rank then Ok is else Err BadMapping

-- the mapping, if it is one for domains of the rank: all its parts are of that rank, and its box, its sizes and its grid
-- are as such a mapping wants them
abbrev pub judged : ℕ → LayoutMap → Result LayoutMap LimitErr
judged rank m = if is_layout rank m then Ok m else Err BadMapping

-- blocks of a box
abbrev pub blocks : (box : List (List ℤ)) → (grid : List ℤ) → Result LayoutMap LimitErr
blocks box grid = judged (length grid) (block (record { box = box; grid = grid }))

-- dealt out one by one
abbrev pub dealt : (start grid : List ℤ) → Result LayoutMap LimitErr
dealt start grid = judged (length grid) (cyclic (record { start = start; grid = grid }))

-- dealt out in blocks
abbrev pub dealt_in_blocks : (start size grid : List ℤ) → Result LayoutMap LimitErr
dealt_in_blocks start size grid = judged (length grid) (block_cyclic (record { start = start; size = size; grid = grid }))

-- The mapping that a literal stands for: a box is within the limits of a rectangular domain, and only then the mapping is
-- judged.
abbrev pub mapping_within : MappingLiteral → Result LayoutMap LimitErr
mapping_within Whole = Ok whole
mapping_within (Block box grid) = do
  ranges ← domain_within box
  blocks ranges (counts_of grid)
mapping_within (Cyclic start grid) = dealt (coordinates_of start) (counts_of grid)
mapping_within (BlockCyclic start size grid) = dealt_in_blocks (coordinates_of start) (coordinates_of size) (counts_of grid)
