-- Literals of domains: rectangles and sets.
use Rattle.std.specs.Prelude.{ℕ, List, Option, Some, option_map}
use Rattle.std.specs.Option.{option_map_or}
use Rattle.wb_literals.specs.Rectangle.{rectangle_of}
use Rattle.wb_literals.specs.Set.{Items, set_literal_of}
use Rattle.wb_literals.specs.declared.rectangle.RectangleLiteral.{RectangleLiteral}

pub data Domain : Type 0 where
  rectangle : RectangleLiteral → Domain
  set : Items → Domain

-- a rectangle or a set; no text is both
abbrev pub domain_of : List ℕ → Option Domain
domain_of text = option_map_or (λ r. Some (rectangle r)) (rectangle_of text) (option_map set (set_literal_of text))
