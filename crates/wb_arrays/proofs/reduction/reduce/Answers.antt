use Rattle.wb_arrays.proofs.Reducing.{answered, only_sums_overflow}
use Rattle.wb_arrays.proofs.reduction.reduce.Goals as goal

pub returns-clause-answer : goal.returns-clause-answer
returns-clause-answer g c = answered c.args.op c.args.of.now.0 c.whole.result c.answer.result c.whole.ensures.value c.answer.ensures.none
    c.answer.ensures.value c.answer.ensures.overflow

pub returns-clause-overflow : goal.returns-clause-overflow
returns-clause-overflow g c =
    only_sums_overflow c.args.op c.args.of.now.0 c.answer.result c.whole.ensures.small
    (answered c.args.op c.args.of.now.0 c.whole.result c.answer.result c.whole.ensures.value c.answer.ensures.none c.answer.ensures.value
    c.answer.ensures.overflow)
