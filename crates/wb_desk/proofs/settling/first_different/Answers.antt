use borrow.Author.Count.{below_more}
use Rattle.wb_desk.specs.Settling.{Agrees}
use Rattle.wb_desk.proofs.settling.first_different.Goals as goal

pub loop-seat-preserved : goal.loop-seat-preserved
loop-seat-preserved g c = below_more (Agrees c.args.lists.now c.args.passes.now) c.loop-seat.seat c.loop-seat.invariant c.in_default.ensures
