-- the fields of a mapping come back from what is seen of it
use Rattle.std.proofs.Common.{◌≡◌, ℕ, ℤ, List, sym, ap, ◌∙◌}
use Rattle.wb_dist.specs.Grid.{size_of_grid}
use Rattle.wb_dist.specs.Maps.{low_corner, high_corner}
use Rattle.wb_dist.specs.Kept.{IsKeptGrid, IsKeptBox}
use Rattle.wb_dist.specs.declared.block.Block.TheInside.{Inside}
use Rattle.wb_dist.specs.declared.cyclic.Cyclic.TheInside.{Inside as CyclicInside}
use Rattle.wb_dist.specs.declared.block_cyclic.BlockCyclic.TheInside.{Inside as BlockCyclicInside}

pub block_fields : (rank : ℕ) (b : Inside rank) → IsKeptBox rank b.bounds b.low b.high → IsKeptGrid rank b.grid b.locales →
    record { bounds = b.bounds; low = low_corner b.bounds; high = high_corner b.bounds; grid = b.grid; locales = size_of_grid b.grid } ≡ b
block_fields rank b h g =
    ap (λ (x : List ℤ). let r : Inside rank = record { bounds = b.bounds; low = x; high = high_corner b.bounds; grid = b.grid; locales = size_of_grid b.grid }
    in r) (sym h.low_is)
    ∙ ap (λ (x : List ℤ). let r : Inside rank = record { bounds = b.bounds; low = b.low; high = x; grid = b.grid; locales = size_of_grid b.grid } in r)
    (sym h.high_is)
    ∙ ap (λ (n : ℕ). let r : Inside rank = record { bounds = b.bounds; low = b.low; high = b.high; grid = b.grid; locales = n } in r) (sym g.counted)

pub cyclic_fields : (rank : ℕ) (c : CyclicInside rank) → IsKeptGrid rank c.grid c.locales →
    record { start = c.start; grid = c.grid; locales = size_of_grid c.grid } ≡ c
cyclic_fields rank c g = ap (λ (n : ℕ). let r : CyclicInside rank = record { start = c.start; grid = c.grid; locales = n } in r) (sym g.counted)

pub block_cyclic_fields : (rank : ℕ) (c : BlockCyclicInside rank) → IsKeptGrid rank c.grid c.locales →
    record { start = c.start; size = c.size; grid = c.grid; locales = size_of_grid c.grid } ≡ c
block_cyclic_fields rank c g = ap (λ (n : ℕ). let r : BlockCyclicInside rank = record { start = c.start; size = c.size; grid = c.grid; locales = n } in r)
    (sym g.counted)
