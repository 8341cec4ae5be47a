use Rattle.std.proofs.Common.{◌≡◌, take}
use Rattle.wb_elements.specs.Entries.{element_at, read_at}
use Rattle.wb_elements.specs.Piecewise.Indexed.{indexed}
use Rattle.wb_elements.proofs.elements.typed.read_all_in.Given as goal

abbrev pub invariant-loop-change : goal.invariant-loop-change
invariant-loop-change g l = l.found.items ≡ read_at g.D.Index.AsIndex.as_index (element_at (indexed g.D.Index.AsIndex.as_index l.pieces.0))
    (take l.change-index l.changes)
