-- Sparse domains: finite sets of indices within a rectangle (Chapel Language Specification, Domains).
use Rattle.std.specs.Prelude.{ℤ, List}
use Rattle.std.specs.List.{Contains}
use Rattle.wb_rect.specs.Product.{product}

-- the ranges of the parent, and the indices in ascending order
pub record Subset : Type 0 where
  pub parent : List (List ℤ)
  pub indices : List (List ℤ)

-- each index is one of the rectangle of the ranges
abbrev pub AreInside : (indices : List (List ℤ)) (ranges : List (List ℤ)) → Type 0
AreInside indices ranges = (i : List ℤ) → Contains indices i → Contains (product ranges) i
