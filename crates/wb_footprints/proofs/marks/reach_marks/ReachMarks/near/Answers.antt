use Rattle.wb_footprints.specs.Keys.{index_key}
use Rattle.wb_footprints.proofs.InReach.{forward, near}
use Rattle.wb_footprints.proofs.marks.reach_marks.ReachMarks.near.Goals as goal

pub returns-clause-forward : goal.returns-clause-forward
returns-clause-forward c = rw c.saturating_sub.ensures (forward c.ends-low.result.0 c.ends-low.result.1 c.args.self.now.reach c.ends-low.ensures.order)

pub returns-clause-all : goal.returns-clause-all
returns-clause-all c = λ p k there low high.
    let within = c.ends-low.ensures.within p there in
    rw c.saturating_sub.ensures (near c.ends-low.result.0 c.ends-low.result.1 c.args.self.now.reach k (index_key p) low high within.0 within.1)
