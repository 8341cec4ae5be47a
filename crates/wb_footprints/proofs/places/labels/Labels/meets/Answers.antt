use Rattle.std.proofs.Common.{sym, ◌∙◌, arith}
use Rattle.wb_footprints.proofs.Merging.{none_merged, first_on, second_on, both_here, first_ends, second_ends}
use Rattle.wb_footprints.proofs.places.labels.Labels.meets.Goals as goal

pub loop-at-init : goal.loop-at-init
loop-at-init c = record { at_most = omega arith; by_most = omega arith; merged = none_merged c.args.self.now c.args.others.now }

pub returns-then-by-other_count : goal.returns-then-by-other_count
returns-then-by-other_count c = sym (second_ends c.args.self.now c.args.others.now c.len-count.ensures.ascending c.len-other_count.ensures.ascending
    c.loop-at.at c.loop-at.by c.loop-at.invariant.merged (omega (arith, c.if-by-other_count.true, c.len-other_count.ensures.value)))

pub returns-in-Equal : goal.returns-in-Equal
returns-in-Equal c = sym (both_here c.args.self.now c.args.others.now c.len-count.ensures.ascending c.len-other_count.ensures.ascending
    c.loop-at.at c.loop-at.by c.loop-at.invariant.merged c.text-text.result.now c.text-other.result.now c.text-text.ensures.text c.text-other.ensures.text
    (sym c.cmp.ensures ∙ c.in-Equal.is))

pub loop-at-preserved-in-Less : goal.loop-at-preserved-in-Less
loop-at-preserved-in-Less c = record {
  at_most = omega (arith, c.loop-at-test.true, c.len-count.ensures.value);
  by_most = c.loop-at.invariant.by_most;
  merged = first_on c.args.self.now c.args.others.now c.len-count.ensures.ascending c.len-other_count.ensures.ascending c.loop-at.at c.loop-at.by
      c.loop-at.invariant.merged c.text-text.result.now c.text-other.result.now c.text-text.ensures.text c.text-other.ensures.text
      (sym c.cmp.ensures ∙ c.in-Less.is);
}

pub loop-at-preserved : goal.loop-at-preserved
loop-at-preserved c = record {
  at_most = c.loop-at.invariant.at_most;
  by_most = omega (arith, c.loop-at.invariant.by_most, c.if-by-other_count.false, c.len-other_count.ensures.value);
  merged = second_on c.args.self.now c.args.others.now c.len-count.ensures.ascending c.len-other_count.ensures.ascending c.loop-at.at c.loop-at.by
      c.loop-at.invariant.merged c.text-text.result.now c.text-other.result.now c.text-text.ensures.text c.text-other.ensures.text
      (sym c.cmp.ensures ∙ c.in-Greater.is);
}

pub returns : goal.returns
returns c = sym (first_ends c.args.self.now c.args.others.now c.len-count.ensures.ascending c.len-other_count.ensures.ascending
    c.loop-at.at c.loop-at.by c.loop-at.invariant.merged (omega (arith, c.loop-at-test.false, c.len-count.ensures.value)))
