use Rattle.wb_dist.specs.Same.{same_layout-exact}
use Rattle.wb_cells.proofs.values.same.is_laid_line.Goals as goal

pub returns-in-Rank1 : goal.returns-in-Rank1
returns-in-Rank1 c = rw (c.eq.ensures, c.in-Rank1.is) (same_layout-exact c.args.one.now c.in-Rank1.layout)
