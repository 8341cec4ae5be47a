use Rattle.wb_footprints.specs.Marks.{marked}
use Rattle.wb_footprints.proofs.Joining.{none_up_to, one_up_to, all_up_to}
use Rattle.wb_footprints.proofs.marks.key_marks.Marks.join_after.Goals as goal

pub loop-number-init : goal.loop-number-init
loop-number-init g c = none_up_to c.args.waiting.now (marked g.K.Ord.cmp c.args.self.now c.args.key) c.args.after

pub loop-number-preserved : goal.loop-number-preserved
loop-number-preserved g c = one_up_to c.args.waiting.now c.loop-number.waiting c.add.new.self (marked g.K.Ord.cmp c.args.self.now c.args.key) c.args.after
    c.loop-number.from c.in-Some.number c.loop-number.invariant c.in-Some.ensures c.in_ok-add.ensures.ok

pub returns : goal.returns
returns g c = all_up_to c.args.waiting.now c.loop-number.waiting (marked g.K.Ord.cmp c.args.self.now c.args.key) c.args.after c.loop-number.from
    c.loop-number.invariant c.in_default.ensures
