use Rattle.wb_dist.specs.Same.{same_layout-exact}
use Rattle.wb_cells.proofs.values.same.is_laid_plane.Goals as goal

pub returns-in-Rank2 : goal.returns-in-Rank2
returns-in-Rank2 c = rw (c.eq.ensures, c.in-Rank2.is) (same_layout-exact c.args.one.now c.in-Rank2.layout)
