use Rattle.std.proofs.Common.{◌≡◌, ◌-◌, length}
use Rattle.wb_literals.specs.Set.{items_at}
use Rattle.wb_literals.proofs.Listing.{onto}
use Rattle.wb_literals.proofs.set.items_at.Given as goal

abbrev pub invariant-loop : goal.invariant-loop
invariant-loop g l = items_at g.T.Item.reads (length l.fn.bytes) l.fn.bytes ≡ onto l.items.items (items_at g.T.Item.reads (l.end - l.counter) l.rest)
