use Rattle.wb_dist.specs.Same.{same_box-exact}
use Rattle.wb_cells.proofs.values.same.is_plane.Goals as goal

pub returns-in-Plane : goal.returns-in-Plane
returns-in-Plane c = rw (c.eq.ensures, c.in-Plane.is) (same_box-exact c.args.one.now c.in-Plane.rect)
