-- Indices as they are kept: points, or labels.
use Rattle.std.specs.Prelude.{List, map}
use Rattle.wb_cells.specs.declared.values.index.Index.{Index}
use Rattle.wb_cells.specs.declared.values.index.Index.TheVariants.{Point, Text}
use Rattle.wb_footprints.specs.declared.places.indices.HeldIndices as held
use Rattle.wb_footprints.specs.declared.places.indices.HeldIndices.TheVariants as the

-- the indices
abbrev pub indices_of : held.HeldIndices → List Index
indices_of (the.Points ps) = map Point ps
indices_of (the.Labels ts) = map Text ts
