-- The objects stand in front of all other cells.
use Rattle.std.proofs.Common.{◌≡◌, ℕ, List, [], ◌∷◌, Option, length, slice_get, refl, sym, ap, ◌∙◌}
use Rattle.std.specs.BTreeMap.{BTreeMap, IsOrdered, keys}
use Rattle.std.specs.List.{AllByRecursion, filter_map, prefix_len}
use Rattle.std.specs.List.Sorted.{IsStrictlySortedBy}
use Rattle.wb_cells.specs.declared.cells.cell.Cell.{Cell}
use Rattle.wb_cells.specs.declared.cells.cell.Cell.TheVariants.{Object, Shape, In, Member, Mapping, Use, Implicit, Element}
use Rattle.std.specs.Option.{option_and_then}
use Rattle.wb_cells.specs.declared.cells.value.Value.{Value}
use Rattle.wb_cells.specs.Cells.{cell_cmp, map_state}
use Rattle.wb_cells.specs.Readers.{object_of, objects}
use Rattle.wb_cells.proofs.Leading.{Leads, Stops, takes, leads_ascending, get_leading, length_leading}
use Rattle.wb_cells.proofs.Order.{keys-map_state}

abbrev any_cell : Cell → Type 0
any_cell x = Unit {0}

objects_stop : Stops object_of any_cell
objects_stop (Object m) y any above e = cc
objects_stop x (Shape n) any above e = refl
objects_stop x (In n i) any above e = refl
objects_stop x (Member n i) any above e = refl
objects_stop x (Mapping n) any above e = refl
objects_stop x (Use d n) any above e = refl
objects_stop x (Implicit n) any above e = refl
objects_stop x (Element n i) any above e = refl
objects_stop (Shape m) (Object n) any above e = cc
objects_stop (In m i) (Object n) any above e = cc
objects_stop (Member m i) (Object n) any above e = cc
objects_stop (Mapping m) (Object n) any above e = cc
objects_stop (Use d m) (Object n) any above e = cc
objects_stop (Implicit m) (Object n) any above e = cc
objects_stop (Element m i) (Object n) any above e = cc

all_any : (xs : List Cell) → AllByRecursion any_cell xs
all_any [] = tt
all_any (x ∷ xs) = (tt, all_any xs)

objects_lead : (xs : List Cell) → IsStrictlySortedBy cell_cmp xs → Leads object_of xs
objects_lead xs s = leads_ascending object_of any_cell objects_stop xs (all_any xs) s

pub object_count : (m : BTreeMap Cell Value) → IsOrdered cell_cmp m → prefix_len (takes object_of) (keys m) ≡ length (objects (map_state m))
object_count m s =
    length_leading object_of (keys m) (objects_lead (keys m) s)
    ∙ sym (ap (λ (cells : List Cell). length (filter_map object_of cells)) (keys-map_state m s))

pub object_found : (m : BTreeMap Cell Value) (p : ℕ) (found : Option Cell) → IsOrdered cell_cmp m → found ≡ slice_get (keys m) p →
    option_and_then object_of found ≡ slice_get (objects (map_state m)) p
object_found m p found s is =
    ap (option_and_then object_of) is
    ∙ get_leading object_of (keys m) p (objects_lead (keys m) s)
    ∙ sym (ap (λ (cells : List Cell). slice_get (filter_map object_of cells) p) (keys-map_state m s))
