use Rattle.std.proofs.Common.{arith}
use Rattle.wb_elements.proofs.Blocks.{sorted_last, last_less}
use Rattle.wb_elements.proofs.filled.goes_behind.Goals as goal

pub returns-then-count-eq0 : goal.returns-then-count-eq0
returns-then-count-eq0 g c = λ h.
    sorted_last g.I.Ord.cmp g.met.I.Ord.total c.args.pair.now c.args.pairs.now c.requires
    (λ k d many. absurd (omega (arith, many, c.if-count-eq0.true)))

pub returns : goal.returns
returns g c = λ h.
    let es = c.args.pairs.now in
    let r = c.index-pairs-last.result in
    sorted_last g.I.Ord.cmp g.met.I.Ord.total c.args.pair.now es c.requires
    (last_less g.I.Ord.cmp g.met.I.Ord.total c.args.pair.now es _ r (omega (arith, c.if-count-eq0.false)) c.index-pairs-last.is (c.is_above.ensures h))
