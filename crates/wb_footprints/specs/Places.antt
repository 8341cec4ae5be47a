-- Where the marks of a cell and of a pattern stand.
use Rattle.std.specs.Prelude.{ℕ, Bool, true, false, Option, Some, None, List}
use Rattle.std.specs.Ordering.{bool_cmp}
use Rattle.wb_cells.specs.declared.cells.cell.Cell.{Cell}
use Rattle.wb_cells.specs.declared.cells.cell.Cell.TheVariants as c
use Rattle.wb_cells.specs.declared.cells.pattern.Pattern.{Pattern}
use Rattle.wb_cells.specs.declared.cells.pattern.Pattern.TheVariants as p
use Rattle.wb_cells.specs.Runs.{name_of_row, kind_of_row}
use Rattle.wb_cells.specs.declared.changes.row.IndexedRow.{IndexedRow}
use Rattle.wb_footprints.specs.declared.places.part.Slot.TheVariants as s
use Rattle.wb_footprints.specs.declared.places.part.Part.TheVariants as part
use Rattle.wb_footprints.specs.declared.places.place.Place.{Place}
use Rattle.wb_footprints.specs.declared.places.place.Place.TheVariants.{Objects, Of}
use Rattle.wb_footprints.specs.declared.marks.place_marks.PlaceMarks.{PlaceMarks}
use Rattle.wb_footprints.specs.Marks.{marked}
use Rattle.wb_cells.specs.declared.values.index.Index.{Index}
use Rattle.wb_footprints.specs.ObjectParts.{object_marked, is_same_object_part, in_object_parts}

-- the place of one cell
abbrev pub own : Cell → Place
own (c.Object d) = Of d (part.Slot s.Object)
own (c.Shape d) = Of d (part.Slot s.Shape)
own (c.In d i) = Of d (part.In i)
own (c.Member d i) = Of d (part.Member i)
own (c.Mapping d) = Of d (part.Slot s.Mapping)
own (c.Use d u) = Of d (part.User u)
own (c.Implicit d) = Of d (part.Slot s.Implicit)
own (c.Element d i) = Of d (part.Element i)

-- the place of the family of a cell, where a pattern may name it
abbrev pub family : Cell → Option Place
family (c.Object d) = Some Objects
family (c.Shape d) = None
family (c.In d i) = None
family (c.Member d i) = Some (Of d (part.Slot s.Members))
family (c.Mapping d) = None
family (c.Use d u) = Some (Of d (part.Slot s.Uses))
family (c.Implicit d) = None
family (c.Element d i) = Some (Of d (part.Slot s.Elements))

-- the place of a pattern: that of its one cell, or of its family
abbrev pub place_of : Pattern → Place
place_of p.Objects = Objects
place_of (p.One x) = own x
place_of (p.Members d) = Of d (part.Slot s.Members)
place_of (p.Uses d) = Of d (part.Slot s.Uses)
place_of (p.Elements d) = Of d (part.Slot s.Elements)

-- whether two places are one
abbrev pub is_same_place : Place → Place → Bool
is_same_place Objects Objects = true
is_same_place (Of d x) (Of e y) = is_same_object_part (d, x) (e, y)
is_same_place _ _ = false

-- whether a number stands at a place
abbrev pub place_marked : PlaceMarks → Place → ℕ → Bool
place_marked m Objects n = marked bool_cmp m.objects true n
place_marked m (Of d x) n = object_marked m.parts (d, x) n

-- whether a place is that of the family of a cell
abbrev pub is_family : Place → Cell → Bool
is_family q x = elim (family x) [ Some f ↦ is_same_place q f | None ↦ false ]

-- whether a place is that of a cell of a row at one of some indices
abbrev pub in_places : IndexedRow → List Index → Place → Bool
in_places row ps Objects = false
in_places row ps (Of e x) = in_object_parts (name_of_row row) (kind_of_row row) ps (e, x)
