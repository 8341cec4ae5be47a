use Rattle.std.proofs.Common.{SFits, w64, rules, sym, ◌∙◌, arith}
use Rattle.wb_dist.proofs.Strides.{strided_at, unit_more, not_missing}
use Rattle.wb_dist.proofs.block.has_unit_strides.Goals as goal
use Rattle.wb_dist.proofs.block.has_unit_strides.Goals.{in-Some+else-stride-ne1, in_default}

pub returns-then-stride-ne1 : goal.returns-then-stride-ne1
returns-then-stride-ne1 g c =
    sym (strided_at c.args.bounds.now c.loop-k.k c.in-Some.range c.stride.result (omega arith) (sym c.range.ensures ∙ c.in-Some.is) c.stride.ensures.value
    c.if-stride-ne1.true)

pub loop-k-preserved : goal.loop-k-preserved
loop-k-preserved g c =
    elim c.match-range.branch [
      | in-Some+else-stride-ne1 w ↦
          let f : SFits w64 w.stride.result = search rules in
          unit_more c.args.bounds.now c.loop-k.k w.in-Some.range w.stride.result c.loop-k.invariant (omega arith) (sym c.range.ensures ∙ w.in-Some.is)
          w.stride.ensures.value f w.if-stride-ne1.false
      | in_default w ↦ absurd (not_missing c.args.bounds.now c.loop-k.k (omega arith) (sym c.range.ensures ∙ w.in_default.is))
    ]
