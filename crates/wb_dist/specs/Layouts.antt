-- a layout as what it is seen as, and back
use Rattle.std.specs.Prelude.{◌≡◌, ℕ, refl}
use Rattle.wb_dist.specs.Maps.{LayoutMap, whole, block, cyclic, block_cyclic}
use Rattle.wb_dist.specs.declared.layout.Distribution.{Distribution}
use Rattle.wb_dist.specs.declared.layout.Distribution.TheVariants.{Whole, Block, Cyclic, BlockCyclic}

abbrev pub map_of : (rank : ℕ) → Distribution rank → LayoutMap
map_of rank Whole = whole
map_of rank (Block m) = block m
map_of rank (Cyclic m) = cyclic m
map_of rank (BlockCyclic m) = block_cyclic m

abbrev pub distribution_of : (rank : ℕ) → LayoutMap → Distribution rank
distribution_of rank whole = Whole
distribution_of rank (block m) = Block m
distribution_of rank (cyclic m) = Cyclic m
distribution_of rank (block_cyclic m) = BlockCyclic m

pub distribution_of-map_of : (rank : ℕ) (d : Distribution rank) → distribution_of rank (map_of rank d) ≡ d
distribution_of-map_of rank Whole = refl
distribution_of-map_of rank (Block m) = refl
distribution_of-map_of rank (Cyclic m) = refl
distribution_of-map_of rank (BlockCyclic m) = refl
