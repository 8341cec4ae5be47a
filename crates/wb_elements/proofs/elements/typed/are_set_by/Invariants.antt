use Rattle.std.proofs.Common.{◌≡◌, true, take}
use Rattle.std.specs.List.{list_all}
use Rattle.wb_elements.specs.Entries.{element_at, sets_one}
use Rattle.wb_elements.proofs.elements.typed.are_set_by.Given as goal

abbrev pub invariant-loop-change : goal.invariant-loop-change
invariant-loop-change g l = list_all (sets_one g.I.AsIndex.as_index (element_at l.elements.0)) (take l.change-index l.changes) ≡ true
