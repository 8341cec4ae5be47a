use Rattle.wb_footprints.specs.Numbers.{numbered}
use Rattle.wb_footprints.proofs.Joining.{none_up_to, one_up_to, all_up_to}
use Rattle.wb_footprints.proofs.marks.numbers.Numbers.join_after.Goals as goal

pub loop-number-init : goal.loop-number-init
loop-number-init c = none_up_to c.args.waiting.now (numbered c.args.self.now) c.args.after

pub loop-number-preserved : goal.loop-number-preserved
loop-number-preserved c = one_up_to c.args.waiting.now c.loop-number.waiting c.add.new.self (numbered c.args.self.now) c.args.after c.loop-number.from
    c.in-Some.number c.loop-number.invariant c.in-Some.ensures c.in_ok-add.ensures.ok

pub returns : goal.returns
returns c = all_up_to c.args.waiting.now c.loop-number.waiting (numbered c.args.self.now) c.args.after c.loop-number.from c.loop-number.invariant
    c.in_default.ensures
