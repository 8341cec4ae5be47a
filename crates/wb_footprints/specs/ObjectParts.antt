-- Which numbers stand at which parts of which objects.
use Rattle.std.specs.Prelude.{ℕ, Bool, false, ◌&&◌, Option, Some, None, List}
use Rattle.std.specs.BTreeMap.{get}
use Rattle.std.specs.Cmp.Lexicographic.{slice_cmp}
use Rattle.std.specs.Ordering.{nat_cmp}
use Rattle.wb_cells.specs.Cells.{Name, is_same_name}
use Rattle.wb_cells.specs.declared.changes.row.RowKind.{RowKind}
use Rattle.wb_footprints.specs.declared.places.part.Part.{Part}
use Rattle.wb_footprints.specs.declared.marks.name_marks.NameMarks.{NameMarks}
use Rattle.wb_footprints.specs.declared.marks.object_marks.ObjectMarks.{ObjectMarks}
use Rattle.wb_cells.specs.declared.values.index.Index.{Index}
use Rattle.wb_footprints.specs.Parts.{ObjectPart, is_same_part, in_run, part_marked}

-- whether a number stands at a part of an object that may have no marks at all
abbrev pub at_name : Option NameMarks → Part → ℕ → Bool
at_name None p n = false
at_name (Some m) p n = part_marked m p n

-- whether a number stands at a part of the object of a name
abbrev pub object_marked : ObjectMarks → ObjectPart → ℕ → Bool
object_marked m s n = at_name (get (slice_cmp nat_cmp) m.names s.0) s.1 n

-- whether they are one part of one object
abbrev pub is_same_object_part : ObjectPart → ObjectPart → Bool
is_same_object_part s t = is_same_name s.0 t.0 && is_same_part s.1 t.1

-- whether it is one of its kind, of the object of a name, at one of some indices
abbrev pub in_object_parts : Name → RowKind → List Index → ObjectPart → Bool
in_object_parts d kind ps s = is_same_name d s.0 && in_run kind ps s.1
