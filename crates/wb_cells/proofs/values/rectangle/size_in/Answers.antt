use Rattle.wb_cells.proofs.Points.{once_points}
use Rattle.wb_rect.specs.Product.{product}
use Rattle.wb_cells.proofs.values.rectangle.size_in.Goals as goal

pub returns-clause-once : goal.returns-clause-once
returns-clause-once g c = once_points (product c.args.rect.now) c.size.ensures.once
