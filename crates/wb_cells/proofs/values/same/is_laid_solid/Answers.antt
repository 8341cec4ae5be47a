use Rattle.wb_dist.specs.Same.{same_layout-exact}
use Rattle.wb_cells.proofs.values.same.is_laid_solid.Goals as goal

pub returns-in-Solid : goal.returns-in-Solid
returns-in-Solid c = rw (c.eq.ensures, c.in-Solid.is) (same_layout-exact c.args.one.now c.in-Solid.layout)
