-- Indices and grids at the front of a text.
use Rattle.std.specs.Prelude.{ℕ, ℤ, List, codes, Option, option_map, option_and_then}
use Rattle.std.specs.Option.{option_map_or}
use Rattle.wb_literals.specs.Tokens.{after_token, comma_at, close_at}
use Rattle.wb_literals.specs.Integer.{integer_at}
use Rattle.wb_literals.specs.declared.index.IndexLiteral.{IndexLiteral}
use Rattle.wb_literals.specs.declared.index.IndexLiteral.TheVariants as indices
use Rattle.wb_literals.specs.declared.index.GridLiteral.{GridLiteral}
use Rattle.wb_literals.specs.declared.index.GridLiteral.TheVariants as grids

-- a further integer, after a comma
abbrev pub next_integer_at : List ℕ → Option (ℤ × List ℕ)
next_integer_at bytes = option_and_then integer_at (comma_at bytes)

abbrev pub third_place_at : ℤ → ℤ → List ℕ → Option (IndexLiteral × List ℕ)
third_place_at i j bytes = option_map_or (λ k. option_map (λ rest. (indices.Triple i j k.0, rest)) (close_at (codes ")") k.1)) (next_integer_at bytes)
    (option_map (λ rest. (indices.Pair i j, rest)) (close_at (codes ")") bytes))

-- 2 or 3 integers in parentheses
abbrev pub tuple_at : List ℕ → Option (IndexLiteral × List ℕ)
tuple_at bytes = option_and_then (λ i. option_and_then (λ j. third_place_at i.0 j.0 j.1) (next_integer_at i.1)) (integer_at bytes)

-- an integer, or 2 or 3 of them in parentheses
abbrev pub index_at : List ℕ → Option (IndexLiteral × List ℕ)
index_at bytes = option_map_or tuple_at (after_token (codes "(") bytes) (option_map (λ i. (indices.Integer i.0, i.1)) (integer_at bytes))

abbrev pub third_extent_at : ℤ → ℤ → List ℕ → Option (GridLiteral × List ℕ)
third_extent_at i j bytes = option_map_or (λ k. option_map (λ rest. (grids.Rank3 i j k.0, rest)) (close_at (codes "]") k.1)) (next_integer_at bytes)
    (option_map (λ rest. (grids.Rank2 i j, rest)) (close_at (codes "]") bytes))

abbrev pub second_extent_at : ℤ → List ℕ → Option (GridLiteral × List ℕ)
second_extent_at i bytes = option_map_or (λ j. third_extent_at i j.0 j.1) (next_integer_at bytes)
    (option_map (λ rest. (grids.Rank1 i, rest)) (close_at (codes "]") bytes))

-- 1 to 3 integers in brackets
abbrev pub grid_at : List ℕ → Option (GridLiteral × List ℕ)
grid_at bytes = option_and_then (λ inside. option_and_then (λ i. second_extent_at i.0 i.1) (integer_at inside)) (after_token (codes "[") bytes)
