use Rattle.std.proofs.Common.{◌≡◌, get_or, subst, ◌∙◌, arith}
use Rattle.std.specs.declared.cmp.Ordering.TheVariants.{Less}
use Rattle.wb_footprints.specs.Texts.{Text, text_cmp}
use Rattle.wb_footprints.proofs.InTexts.{texts_total, texts_exact}
use Rattle.wb_footprints.proofs.AtMarks.{below_both}
use Rattle.wb_footprints.proofs.places.labels.Labels.place_from.Goals as goal

pub loop-low-init : goal.loop-low-init
loop-low-init c = record {
  from = omega arith;
  order = omega (arith, c.requires, c.len-count.ensures.value);
  within = omega (arith, c.len-count.ensures.value);
  below = λ i d a b. absurd (omega (arith, a, b));
}

pub loop-low-preserved : goal.loop-low-preserved
loop-low-preserved c = record {
  from = omega (arith, c.loop-low.invariant.from, c.half-half.ensures.from);
  order = c.half-half.ensures.order;
  within = omega (arith, c.loop-low.invariant.within, c.half-half.ensures.within);
  below = below_both text_cmp texts_total texts_exact c.args.self.now c.args.label.now c.args.from c.loop-low.low c.half-half.result.0 c.loop-low.invariant.below
      (λ i d a b. subst (λ (t : Text). text_cmp (get_or c.args.self.now i d) t ≡ Less) (c.as_bytes-text.ensures.value ∙ c.as_str.ensures.value)
      (c.half-half.ensures.below i d a b));
}
