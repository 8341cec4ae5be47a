-- The changes of elements, by the arrays that they concern.
use Rattle.std.specs.Prelude.{◌≡◌, ℤ, Bool, true, not, ◌&&◌, List, [], Option, Some, None, option_map, is_some}
use Rattle.std.specs.BTreeMap.{is_at}
use Rattle.std.specs.Cmp.Lexicographic.{slice_cmp}
use Rattle.std.specs.FinMap.{get}
use Rattle.std.specs.Map.{lookup}
use Rattle.std.specs.Ordering.{nat_cmp}
use Rattle.selective_undo.specs.declared.Change.{Change}
use Rattle.selective_undo.specs.Changes.{apply}
use Rattle.wb_cells.specs.declared.cells.cell.Cell.{Cell}
use Rattle.wb_cells.specs.declared.cells.cell.Cell.TheVariants.{Object, Mapping, Element}
use Rattle.wb_cells.specs.declared.cells.value.Value.{Value}
use Rattle.wb_cells.specs.declared.cells.value.Value.TheVariants.{Number}
use Rattle.wb_cells.specs.declared.values.index.Index.{Index}
use Rattle.wb_cells.specs.Cells.{Name, Cells, Changes}
use Rattle.wb_elements.specs.Piecewise.Changed.{changed_at}
use Rattle.wb_book.specs.Kept.{number_in}

-- changes of the elements of an array
abbrev pub Group : Type 0
Group = List (Index × Option ℤ)

abbrev pub group_in : List (Name × Group) → Name → Option Group
group_in groups a = lookup (is_at (slice_cmp nat_cmp a)) groups

abbrev pub changes_of : Option Group → Group
changes_of None = []
changes_of (Some xs) = xs

-- the changes of the elements of an array, none where it isn't named
abbrev pub changes_in : List (Name × Group) → Name → Group
changes_in groups a = changes_of (group_in groups a)

-- a number, or nothing
abbrev pub is_plain : Option Value → Bool
is_plain None = true
is_plain (Some v) = is_some (number_in (Some v))

abbrev pub sets_plain : Cell → Option Value → Bool
sets_plain (Element a i) v = is_plain v
sets_plain _ v = true

-- whether a change sets an element, if it sets one, to a number
abbrev pub is_numeric : Change Cell Value → Bool
is_numeric x = sets_plain x.cell x.value

-- from the elements of an array before the changes these changes of elements lead to those after them
abbrev pub LeadTo : Changes → Name → Group → Type 0
LeadTo delta a xs =
    (s : Cells) (o : Option ℤ) (i : Index) → option_map Number o ≡ get s (Element a i) →
    option_map Number (changed_at xs o i) ≡ get (apply delta s) (Element a i)

abbrev pub leaves_at : (Cell → Option Value) → Cell → Option Value → Bool
leaves_at stored (Object n) v = not (is_some v && is_some (stored (Object n)))
leaves_at stored (Mapping d) v = not (is_some v && is_some (stored (Mapping d)))
leaves_at stored _ v = true

-- whether a change gives no other value to an object or a mapping that is there
abbrev pub leaves : (Cell → Option Value) → Change Cell Value → Bool
leaves stored x = leaves_at stored x.cell x.value
