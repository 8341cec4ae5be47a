-- Which numbers stand at which parts of an object.
use Rattle.std.specs.Prelude.{ℕ, Bool, false, ◌||◌, List}
use Rattle.std.specs.Cmp.Lexicographic.{slice_cmp}
use Rattle.std.specs.Ordering.{nat_cmp, eq_by_cmp}
use Rattle.wb_cells.specs.declared.values.index.Index.{Index}
use Rattle.wb_cells.specs.declared.values.index.Index.TheVariants.{Point, Text}
use Rattle.wb_cells.specs.Cells.{Name, is_same_name, is_same_index}
use Rattle.wb_cells.specs.declared.changes.row.RowKind.{RowKind}
use Rattle.wb_cells.specs.declared.changes.row.RowKind.TheVariants.{Inside, Members, Elements}
use Rattle.wb_footprints.specs.declared.places.part.Part.{Part}
use Rattle.wb_footprints.specs.declared.places.part.Part.TheVariants.{Slot, In, Member, User, Element}
use Rattle.wb_footprints.specs.declared.marks.index_marks.IndexMarks.{IndexMarks}
use Rattle.wb_footprints.specs.declared.marks.name_marks.NameMarks.{NameMarks}
use Rattle.wb_footprints.specs.Marks.{marked}
use Rattle.wb_footprints.specs.Slots.{slot_cmp, slot_marked}
use Rattle.wb_footprints.specs.PointMarks.{point_marked}
use Rattle.wb_footprints.specs.Indices.{in_indices}
use Rattle.wb_footprints.specs.Reaches.{in_reaches}

-- a part of the object of a name
abbrev pub ObjectPart : Type 0
ObjectPart = Name × Part

-- whether a number stands at an index alone
abbrev pub alone_marked : IndexMarks → Index → ℕ → Bool
alone_marked m (Point p) n = point_marked m.points p n
alone_marked m (Text t) n = marked (slice_cmp nat_cmp) m.texts t n

-- whether a number stands at an index: alone, or in a block
abbrev pub index_marked : IndexMarks → Index → ℕ → Bool
index_marked m i n = alone_marked m i n || in_reaches m.blocks.reaches.items i n

-- whether a part is one of its kind at one of some indices
abbrev pub in_run : RowKind → List Index → Part → Bool
in_run Inside is (In i) = in_indices is i
in_run Members is (Member i) = in_indices is i
in_run Elements is (Element i) = in_indices is i
in_run _ _ _ = false

-- the part of its kind at an index
abbrev pub part_at : RowKind → Index → Part
part_at Inside i = In i
part_at Members i = Member i
part_at Elements i = Element i

-- whether two parts are one
abbrev pub is_same_part : Part → Part → Bool
is_same_part (Slot s) (Slot t) = eq_by_cmp slot_cmp s t
is_same_part (In i) (In j) = is_same_index i j
is_same_part (Member i) (Member j) = is_same_index i j
is_same_part (User m) (User n) = is_same_name m n
is_same_part (Element i) (Element j) = is_same_index i j
is_same_part _ _ = false

-- whether a number stands at a part
abbrev pub part_marked : NameMarks → Part → ℕ → Bool
part_marked m (Slot s) n = slot_marked m.slots s n
part_marked m (In i) n = index_marked m.inside i n
part_marked m (Member i) n = index_marked m.members i n
part_marked m (User u) n = marked (slice_cmp nat_cmp) m.users u n
part_marked m (Element i) n = index_marked m.elements i n
