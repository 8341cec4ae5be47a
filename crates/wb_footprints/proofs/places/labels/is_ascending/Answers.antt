use Rattle.std.proofs.Common.{sym, ◌∙◌, arith}
use Rattle.wb_footprints.proofs.InBlocks.{less_of}
use Rattle.wb_footprints.proofs.Merging.{ascend, one_step}
use Rattle.wb_footprints.proofs.places.labels.is_ascending.Goals as goal

pub loop-at-init : goal.loop-at-init
loop-at-init c = record { some = omega arith; steps = λ i d l. absurd (omega (arith, l)) }

pub loop-at-preserved : goal.loop-at-preserved
loop-at-preserved c = record {
  some = omega (arith, c.loop-at.invariant.some);
  steps = one_step c.args.list.now c.loop-at.at c.text-below.result.now c.text-text.result.now c.loop-at.invariant.some c.text-below.ensures.text
      c.text-text.ensures.text (sym c.cmp.ensures ∙ less_of c.cmp.result (sym c.is_lt.ensures ∙ c.if-not-is_lt.false)) c.loop-at.invariant.steps;
}

pub returns : goal.returns
returns c = λ yes. ascend c.args.list.now c.loop-at.at (omega (arith, c.loop-at-test.false, c.len-at-end.ensures.value)) c.loop-at.invariant.steps
