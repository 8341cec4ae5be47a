use Rattle.std.proofs.Common.{◌≡◌, None, take}
use Rattle.wb_elements.specs.Entries.{read_at}
use Rattle.wb_book.proofs.keep.absent_at.Given as goal

abbrev pub invariant-loop-index : goal.invariant-loop-index
invariant-loop-index g l = l.found.items ≡ read_at g.I.AsIndex.as_index (λ i. None) (take l.index-index l.changes)
