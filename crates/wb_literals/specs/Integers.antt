-- Lists of integers at the front of a text.
use Rattle.std.specs.Prelude.{ℕ, ℤ, List, [], length, codes, Option, Some, option_map, option_and_then}
use Rattle.std.specs.Option.{option_map_or}
use Rattle.wb_literals.specs.Tokens.{after, after_token, close_at}
use Rattle.wb_literals.specs.Integer.{integer_at}
use Rattle.wb_literals.specs.Set.{items_at}

-- one or more integers and the closing bracket; a text has no more integers than bytes
abbrev pub filled_at : List ℕ → Option (List ℤ × List ℕ)
filled_at bytes = option_and_then (λ x. option_map (λ rest. (x.0, rest)) (close_at (codes "]") x.1)) (items_at integer_at (length bytes) bytes)

-- any number of integers in brackets
abbrev pub integers_at : List ℕ → Option (List ℤ × List ℕ)
integers_at bytes = option_and_then (λ inside. option_map_or (λ rest. Some ([], rest)) (after (codes "]") inside) (filled_at inside))
    (after_token (codes "[") bytes)
