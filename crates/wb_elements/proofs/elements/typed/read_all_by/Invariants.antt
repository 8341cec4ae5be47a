use Rattle.std.proofs.Common.{◌≡◌, take}
use Rattle.wb_elements.specs.Entries.{element_at, read_at}
use Rattle.wb_elements.proofs.elements.typed.read_all_by.Given as goal

abbrev pub invariant-loop-change : goal.invariant-loop-change
invariant-loop-change g l = l.found.items ≡ read_at g.I.AsIndex.as_index (element_at l.elements.0) (take l.change-index l.changes)
