use Rattle.wb_dist.specs.Same.{same_indices-exact}
use Rattle.wb_cells.proofs.values.point.Point.is_same.Goals as goal

pub returns : goal.returns
returns c = rw (c.eq.ensures, c.coordinates.ensures, c.coordinates-2.ensures) (same_indices-exact c.args.self.now c.args.other.now)
