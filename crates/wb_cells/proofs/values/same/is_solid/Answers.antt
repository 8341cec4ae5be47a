use Rattle.wb_dist.specs.Same.{same_box-exact}
use Rattle.wb_cells.proofs.values.same.is_solid.Goals as goal

pub returns-in-Rank3 : goal.returns-in-Rank3
returns-in-Rank3 c = rw (c.eq.ensures, c.in-Rank3.is) (same_box-exact c.args.one.now c.in-Rank3.rect)
