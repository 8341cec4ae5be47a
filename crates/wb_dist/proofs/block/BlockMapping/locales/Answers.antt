use Rattle.std.proofs.Common.{arith}
use Rattle.wb_dist.proofs.Places.{some_locales}
use Rattle.wb_dist.proofs.block.BlockMapping.locales.Goals as goal

pub returns-clause-some : goal.returns-clause-some
returns-clause-some g c = omega (arith, c.self.invariant.1.counted, some_locales c.self.inside.grid c.self.invariant.1.good_grid)
