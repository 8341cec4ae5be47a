use Rattle.std.proofs.Common.{◌≡◌, ◌++◌, take}
use Rattle.wb_elements.specs.Piecewise.Marked.{as_changes}
use Rattle.wb_book.proofs.groups.push_all.Given as goal

abbrev pub invariant-loop-index : goal.invariant-loop-index
invariant-loop-index g l = l.list.items ≡ l.fn.list.items ++ as_changes g.I.AsIndex.as_index (take l.index-index l.changes)
