-- Index sets of rectangular domains.
use Rattle.std.specs.Prelude.{ℤ, List, map}
use Rattle.wb_rect.specs.Product.{product}
use Rattle.wb_cells.specs.declared.values.index.Index.{Index}
use Rattle.wb_cells.specs.declared.values.index.Index.TheVariants.{Point}

-- a range is the list of its indices
abbrev pub Range : Type 0
Range = List ℤ

-- the indices of a rectangular domain with these ranges, in row-major order, each range in its own direction
-- (Chapel Language Specification, Domains)
abbrev pub indices : List Range → List Index
indices rs = map Point (product rs)
