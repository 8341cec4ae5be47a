use Rattle.wb_footprints.specs.Numbers.{numbered}
use Rattle.wb_footprints.proofs.AllFirsts.{one_more, all_found}
use Rattle.wb_footprints.proofs.marks.numbers.Numbers.above.Goals as goal

pub loop-number-preserved : goal.loop-number-preserved
loop-number-preserved c = rw c.in-Ok.ensures.items (one_more (numbered c.args.self.now) c.loop-number.found.items c.args.after c.loop-number.from
    c.in-Some.number c.loop-number.invariant c.in-Some.ensures)

pub returns : goal.returns
returns c = all_found (numbered c.args.self.now) c.loop-number.found.items c.args.after c.loop-number.from c.loop-number.invariant c.in_default.ensures
