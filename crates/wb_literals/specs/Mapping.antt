-- Mappings at the front of a text (Chapel Language Specification, Domain Maps).
use Rattle.std.specs.Prelude.{ℕ, List, codes, Option, option_map, option_and_then}
use Rattle.std.specs.Option.{option_map_or}
use Rattle.wb_literals.specs.Tokens.{after, after_token, comma_at, close_at, whole}
use Rattle.wb_literals.specs.Rectangle.{rectangle_at}
use Rattle.wb_literals.specs.Index.{index_at, grid_at}
use Rattle.wb_literals.specs.declared.index.IndexLiteral.{IndexLiteral}
use Rattle.wb_literals.specs.declared.index.GridLiteral.{GridLiteral}
use Rattle.wb_literals.specs.declared.mapping.MappingLiteral.{MappingLiteral}
use Rattle.wb_literals.specs.declared.mapping.MappingLiteral.TheVariants as mappings

-- a comma, a grid and the closing parenthesis
abbrev pub last_grid_at : List ℕ → Option (GridLiteral × List ℕ)
last_grid_at bytes = option_and_then (λ rest. option_and_then (λ g. option_map (λ last. (g.0, last)) (close_at (codes ")") g.1)) (grid_at rest))
    (comma_at bytes)

-- a further index, after a comma
abbrev pub next_index_at : List ℕ → Option (IndexLiteral × List ℕ)
next_index_at bytes = option_and_then index_at (comma_at bytes)

-- a box and a grid
abbrev pub block_at : List ℕ → Option (MappingLiteral × List ℕ)
block_at bytes = option_and_then (λ box. option_map (λ g. (mappings.Block box.0 g.0, g.1)) (last_grid_at box.1)) (rectangle_at bytes)

-- a start and a grid
abbrev pub cyclic_at : List ℕ → Option (MappingLiteral × List ℕ)
cyclic_at bytes = option_and_then (λ start. option_map (λ g. (mappings.Cyclic start.0 g.0, g.1)) (last_grid_at start.1)) (index_at bytes)

-- a start, the sizes of the blocks and a grid
abbrev pub block_cyclic_at : List ℕ → Option (MappingLiteral × List ℕ)
block_cyclic_at bytes = option_and_then (λ start. option_and_then
    (λ sizes. option_map (λ g. (mappings.BlockCyclic start.0 sizes.0 g.0, g.1)) (last_grid_at sizes.1)) (next_index_at start.1)) (index_at bytes)

abbrev pub mapping_at : List ℕ → Option (MappingLiteral × List ℕ)
mapping_at bytes = option_map_or block_at (after_token (codes "blockDist(") bytes)
    (option_map_or cyclic_at (after_token (codes "cyclicDist(") bytes)
    (option_map_or block_cyclic_at (after_token (codes "blockCycDist(") bytes)
    (option_map (λ rest. (mappings.Whole, rest)) (after (codes "none") bytes))))

abbrev pub mapping_of : List ℕ → Option MappingLiteral
mapping_of text = whole mapping_at text
