-- Rectangles at the front of a text.
use Rattle.std.specs.Prelude.{ℕ, List, codes, Option, option_map, option_and_then}
use Rattle.std.specs.Option.{option_map_or}
use Rattle.wb_literals.specs.Tokens.{after_token, comma_at, close_at, whole}
use Rattle.wb_literals.specs.Range.{range_at}
use Rattle.wb_literals.specs.declared.range.RangeLiteral.{RangeLiteral}
use Rattle.wb_literals.specs.declared.rectangle.RectangleLiteral.{RectangleLiteral}
use Rattle.wb_literals.specs.declared.rectangle.RectangleLiteral.TheVariants.{Rank1, Rank2, Rank3}

-- a further range, after a comma
abbrev pub next_range_at : List ℕ → Option (RangeLiteral × List ℕ)
next_range_at bytes = option_and_then range_at (comma_at bytes)

abbrev pub third_range_at : RangeLiteral → RangeLiteral → List ℕ → Option (RectangleLiteral × List ℕ)
third_range_at a b bytes = option_map_or (λ c. option_map (λ rest. (Rank3 a b c.0, rest)) (close_at (codes "}") c.1)) (next_range_at bytes)
    (option_map (λ rest. (Rank2 a b, rest)) (close_at (codes "}") bytes))

abbrev pub second_range_at : RangeLiteral → List ℕ → Option (RectangleLiteral × List ℕ)
second_range_at a bytes = option_map_or (λ b. third_range_at a b.0 b.1) (next_range_at bytes) (option_map (λ rest. (Rank1 a, rest)) (close_at (codes "}") bytes))

-- 1 to 3 ranges in braces
abbrev pub rectangle_at : List ℕ → Option (RectangleLiteral × List ℕ)
rectangle_at bytes = option_and_then (λ inside. option_and_then (λ a. second_range_at a.0 a.1) (range_at inside)) (after_token (codes "{") bytes)

abbrev pub rectangle_of : List ℕ → Option RectangleLiteral
rectangle_of text = whole rectangle_at text
