-- What the records stand for in which entries are kept.
use Rattle.std.specs.Prelude.{Bool, true, false, List, [], ◌∷◌, Option, Some, None, option_map, slice_get}
use Rattle.selective_undo.specs.Log.{Footprint}
use Rattle.wb_cells.specs.declared.cells.cell.Cell.{Cell}
use Rattle.wb_cells.specs.declared.cells.cell.Cell.TheVariants.{Object, Implicit, Element, Member}
use Rattle.wb_cells.specs.declared.cells.value.Value.{Value}
use Rattle.wb_cells.specs.declared.cells.value.Value.TheVariants as value
use Rattle.wb_cells.specs.declared.cells.pattern.Pattern.{Pattern}
use Rattle.wb_cells.specs.declared.cells.pattern.Pattern.TheVariants.{One, Uses}
use Rattle.wb_cells.specs.declared.values.index.Index.{Index}
use Rattle.wb_cells.specs.Cells.{Name, Changes}
use Rattle.wb_cells.specs.Schema.{workbook}
use Rattle.wb_cells.specs.Shapes.{Range, indices}
use Rattle.wb_edit.specs.declared.asked_rectangle.AskedRectangle.TheVariants.{Ranges}
use Rattle.wb_edit.specs.declared.edit.Edit as command
use Rattle.wb_edit.specs.declared.edit.Edit.TheVariants.{Command as OneCommand}
use Rattle.wb_edit.specs.declared.command.Command.TheVariants.{Set as SetTo, Copy as CopyTo, Irv as IrvTo, Add, Remove, Fill as FillWith}
use Rattle.wb_footprints.specs.Footprints.{element_reads}
use Rattle.wb_log.specs.declared.entry.Before.{Before}
use Rattle.wb_log.specs.declared.entry.Before.TheVariants.{Number, Present, Nothing}
use Rattle.wb_log.specs.declared.entry.Was.{Was}
use Rattle.wb_log.specs.declared.entry.Was.TheVariants.{Untold, Number as WasNumber, Present as WasPresent, Nothing as WasNothing}
use Rattle.wb_log.specs.declared.entry.LoggedEdit.{LoggedEdit}
use Rattle.wb_log.specs.declared.entry.UndoData.{UndoData}
use Rattle.wb_log.specs.declared.entry.FillsRecord.{FillsRecord}
use Rattle.wb_log.specs.declared.entry.RecordForm.{RecordForm}
use Rattle.wb_log.specs.declared.entry.RecordForm.TheVariants.{Set, Copy, Irv, Member as OneMember, Fill, Sets, Fills, Whole}
use Rattle.wb_log.specs.declared.entry.LentEdit.{LentEdit}
use Rattle.wb_log.specs.declared.entry.LentEdit.TheVariants.{Own, Lent as LentOne}
use Rattle.wb_log.specs.declared.entry.LentFootprint.{LentFootprint}
use Rattle.wb_log.specs.declared.entry.LentFootprint.TheVariants.{Set as OfSet, Copy as OfCopy, Irv as OfIrv, Member as OfMember, Fill as OfFill, Sets as OfSets, Lent as OfWhole}
use Rattle.wb_log.specs.declared.lent.LentKept.{LentKept}
use Rattle.wb_log.specs.declared.lent.LentKept.TheVariants.{Listed, Filled}
use Rattle.wb_log.specs.declared.lent.LentCells.{LentCells}
use Rattle.wb_log.specs.declared.lent.LentCells.TheVariants.{Listed as ListedCells, Filled as FilledOnes}
use Rattle.wb_log.specs.Fills.{array_reads, held_cells, filled_in}
use Rattle.wb_log.specs.Kept.{footprint}

-- what a copy reads where both elements are there: both arrays, the element that it sets, and the one that it copies
abbrev pub copy_reads : Name → Index → Name → Index → List Pattern
copy_reads a i b j = One (Object a) ∷ One (Object b) ∷ One (Element a i) ∷ One (Element b j) ∷ []

-- what a new implicit value reads: the array
abbrev pub implicit_reads : Name → List Pattern
implicit_reads a = One (Object a) ∷ []

-- an index comes to a domain, or leaves it
abbrev pub member_edit : Bool → Name → Index → command.Edit
member_edit true d i = OneCommand (Add d i)
member_edit false d i = OneCommand (Remove d i)

-- what either reads where nothing is bound to the domain and no parent is asked: the domain, the index, and what is bound
abbrev pub member_reads : Name → Index → List Pattern
member_reads d i = One (Object d) ∷ One (Member d i) ∷ Uses d ∷ []

-- the element of an array at the first index of some, or the array where there is none
abbrev pub first_element : Name → Option Index → Cell
first_element a (Some i) = Element a i
first_element a None = Object a

-- the cell of a fill at the one index of a rectangle
abbrev pub filled_cell : Name → List Range → Cell
filled_cell a on = first_element a (slice_get (indices on) 0)

-- what such a fill reads: the array, and the element
abbrev pub fill_reads : Name → List Range → List Pattern
fill_reads a on = One (Object a) ∷ One (filled_cell a on) ∷ []

-- what a cell held, as a value
abbrev pub value_before : Before → Option Value
value_before (Number n) = Some (value.Number n)
value_before Present = Some value.Present
value_before Nothing = None

-- what a cell held, if it is told
abbrev pub before_in : Was → Option Before
before_in Untold = None
before_in (WasNumber n) = Some (Number n)
before_in WasPresent = Some Present
before_in WasNothing = Some Nothing

-- what takes back a change of one cell
abbrev pub cell_before : Cell → Before → Changes
cell_before c old = record { cell = c; value = value_before old } ∷ []

-- both, kept of an edit that read patterns and changed such a cell, if it is in force
abbrev pub one_kept : List Pattern → Cell → Option Before → Option UndoData
one_kept rs c old = option_map (λ b. record { footprint = rs; inverse = cell_before c b }) old

-- what is kept of a form's edit, by what the one cell held that it changed, if it is in force
abbrev pub kept_of : RecordForm → Option Before → Option UndoData
kept_of (Set x) old = one_kept (element_reads x.array x.place) (Element x.array x.place) old
kept_of (Copy x) old =
    let y = x.value in
    one_kept (copy_reads y.array y.place y.source y.from) (Element y.array y.place) old
kept_of (Irv x) old = one_kept (implicit_reads x.array) (Implicit x.array) old
kept_of (OneMember x) old = one_kept (member_reads x.domain x.place) (Member x.domain x.place) old
kept_of (Fill x) old =
    let y = x.value in
    one_kept (fill_reads y.array y.on) (filled_cell y.array y.on) old
kept_of (Sets x) old = None
kept_of (Fills x) old = None
kept_of (Whole w) old = None

-- what is kept of a fill of several elements, by the numbers that these were, if it is in force
abbrev pub fills_kept : FillsRecord → Option UndoData
fills_kept x = option_map (λ ns. let xs = held_cells x.array x.on ns.items in record { footprint = array_reads x.array xs; inverse = xs }) x.were

-- the entry that a form stands for
abbrev pub shown : RecordForm → LoggedEdit
shown (Set x) = record { edit = OneCommand (SetTo x.array x.place x.value); kept = kept_of (Set x) (before_in x.was) }
shown (Copy x) = record { edit = OneCommand (CopyTo x.value.array x.value.place x.value.source x.value.from x.value.more); kept = kept_of (Copy x) (before_in x.value.was) }
shown (Irv x) = record { edit = OneCommand (IrvTo x.array x.value); kept = kept_of (Irv x) (before_in x.was) }
shown (OneMember x) = record { edit = member_edit x.comes x.domain x.place; kept = kept_of (OneMember x) (before_in x.was) }
shown (Fill x) = record { edit = OneCommand (FillWith x.value.array (Ranges x.value.on) x.value.value); kept = kept_of (Fill x) (before_in x.value.was) }
shown (Sets x) = record { edit = x.value.edit; kept = x.value.were }
shown (Fills x) = record { edit = OneCommand (FillWith x.value.array (Ranges x.value.on) x.value.value); kept = fills_kept x.value }
shown (Whole w) = w.value

-- what is kept of a form's edit once it is told what the cells held: of sets as one edit that, and of another form what was
abbrev pub held_of : RecordForm → UndoData → Option UndoData
held_of (Sets x) were = Some were
held_of (Set x) were = kept_of (Set x) (before_in x.was)
held_of (Copy x) were = kept_of (Copy x) (before_in x.value.was)
held_of (Irv x) were = kept_of (Irv x) (before_in x.was)
held_of (OneMember x) were = kept_of (OneMember x) (before_in x.was)
held_of (Fill x) were = kept_of (Fill x) (before_in x.value.was)
held_of (Fills x) were = fills_kept x.value
held_of (Whole w) were = w.value.kept

-- the edit that is lent
abbrev pub lent_edit : LentEdit → command.Edit
lent_edit (Own e) = e
lent_edit (LentOne e) = e.now

-- the footprint that is lent
abbrev pub lent_footprint : LentFootprint → Footprint workbook
lent_footprint (OfSet rs b) = footprint rs b
lent_footprint (OfCopy rs b) = footprint rs b
lent_footprint (OfIrv rs b) = footprint rs b
lent_footprint (OfMember rs b) = footprint rs b
lent_footprint (OfFill rs b) = footprint rs b
lent_footprint (OfSets w) = footprint w.now.footprint w.now.inverse
lent_footprint (OfWhole k) = footprint k.now.footprint k.now.inverse

-- the same, also where a fill is lent by the numbers that its elements were
abbrev pub lent_kept : LentKept → Footprint workbook
lent_kept (Listed l) = lent_footprint l
lent_kept (Filled f) = footprint (array_reads f.array.now (filled_in f)) (filled_in f)

-- the cells that are lent, with what they were
abbrev pub lent_cells : LentCells → Changes
lent_cells (ListedCells xs) = xs.now
lent_cells (FilledOnes f) = filled_in f
