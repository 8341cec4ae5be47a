use Rattle.wb_dist.specs.Same.{same_block-exact}
use Rattle.wb_dist.proofs.block.BlockPartialEq.eq.Goals as goal

pub returns-clause-exact : goal.returns-clause-exact
returns-clause-exact g c = rw c.is_same.ensures (same_block-exact c.args.self.now c.args.other.now)
