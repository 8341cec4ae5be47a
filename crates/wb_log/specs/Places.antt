-- The indices that records have.
use Rattle.wb_cells.specs.declared.values.index.Index.{Index}
use Rattle.wb_cells.specs.declared.values.index.Index.TheVariants.{Point, Text}
use Rattle.wb_log.specs.declared.kept_place.PlaceForm.{PlaceForm}
use Rattle.wb_log.specs.declared.kept_place.PlaceForm.TheVariants.{Line, Plane, Solid, Short, Apart}

-- the index that a form stands for
abbrev pub place_of : PlaceForm → Index
place_of (Line k) = Point k
place_of (Plane k) = Point k
place_of (Solid k) = Point k
place_of (Short t) = Text t
place_of (Apart x) = x.value
