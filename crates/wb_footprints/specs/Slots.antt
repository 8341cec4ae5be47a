-- Which numbers stand at which slots of an object.
use Rattle.std.specs.Prelude.{ℕ, Bool}
use Rattle.std.specs.declared.cmp.Ordering.{Ordering}
use Rattle.wb_footprints.specs.contracts.places.part.SlotOrd.TheImpl as slots
use Rattle.wb_footprints.specs.declared.places.part.Slot as slot
use Rattle.wb_footprints.specs.declared.places.part.Slot.TheVariants.{Object, Shape, Mapping, Implicit, Members, Uses, Elements}
use Rattle.wb_footprints.specs.declared.marks.slot_marks.SlotMarks.{SlotMarks}
use Rattle.wb_footprints.specs.Numbers.{numbered}

-- the order in which the cells and families of one object are declared
abbrev pub slot_cmp : slot.Slot → slot.Slot → Ordering
slot_cmp = (slots.ghosts).cmp

-- whether a number stands at a slot
abbrev pub slot_marked : SlotMarks → slot.Slot → ℕ → Bool
slot_marked m Object n = numbered m.object n
slot_marked m Shape n = numbered m.shape n
slot_marked m Mapping n = numbered m.mapping n
slot_marked m Implicit n = numbered m.implicit n
slot_marked m Members n = numbered m.members n
slot_marked m Uses n = numbered m.uses n
slot_marked m Elements n = numbered m.elements n
