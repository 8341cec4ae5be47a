-- Which numbers stand at which indices by blocks, each of some numbers and many indices.
use Rattle.std.specs.Prelude.{ℕ, Bool, ◌&&◌, List}
use Rattle.std.specs.List.{list_any}
use Rattle.wb_footprints.specs.declared.marks.blocks.MarkBlock.{MarkBlock}
use Rattle.wb_footprints.specs.Numbers.{numbered}
use Rattle.wb_cells.specs.declared.values.index.Index.{Index}
use Rattle.wb_footprints.specs.Indices.{in_indices}

-- whether a number stands at an index by one of some blocks
abbrev pub in_blocks : List MarkBlock → Index → ℕ → Bool
in_blocks bs p n = list_any (λ b. in_indices b.indices p && numbered b.numbers n) bs
