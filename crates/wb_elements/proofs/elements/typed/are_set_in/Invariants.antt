use Rattle.std.proofs.Common.{◌≡◌, true, take}
use Rattle.std.specs.List.{list_all}
use Rattle.wb_elements.specs.Entries.{element_at, sets_one}
use Rattle.wb_elements.specs.Piecewise.Indexed.{indexed}
use Rattle.wb_elements.proofs.elements.typed.are_set_in.Given as goal

abbrev pub invariant-loop-change : goal.invariant-loop-change
invariant-loop-change g l = list_all (sets_one g.D.Index.AsIndex.as_index (element_at (indexed g.D.Index.AsIndex.as_index l.pieces.0)))
    (take l.change-index l.changes) ≡ true
