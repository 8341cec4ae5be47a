use Rattle.std.proofs.Common.{◌-◌, length, sym, ◌∙◌, arith}
use Rattle.wb_literals.proofs.Listing.{no_item, last_item, more_items}
use Rattle.wb_literals.proofs.set.items_at.Goals as goal

pub returns-in-None : goal.returns-in-None
returns-in-None g c = no_item g.T.Item.reads (length c.args.bytes.now - c.loop.counter) c.loop.items.items c.loop.rest.now c.in-None.ensures ∙
    sym c.loop.invariant

pub returns-in-None-comma_at : goal.returns-in-None-comma_at
returns-in-None-comma_at g c = rw c.in_ok-push.ensures.items (
    last_item g.T.Item.reads (length c.args.bytes.now - c.loop.counter) c.loop.items.items _ c.loop.rest.now _ (omega arith) c.in-Some.ensures
    c.in-None-comma_at.ensures ∙ sym c.loop.invariant)

pub loop-preserved : goal.loop-preserved
loop-preserved g c = rw c.in_ok-push.ensures.items (
    c.loop.invariant ∙ more_items g.T.Item.reads (length c.args.bytes.now) c.loop.counter c.loop.items.items _ c.loop.rest.now _ _ (omega arith)
    c.in-Some.ensures c.in-Some-comma_at.ensures)
