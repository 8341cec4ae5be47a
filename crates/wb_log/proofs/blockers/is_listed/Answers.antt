use Rattle.std.proofs.Common.{◌∙◌}
use Rattle.wb_log.proofs.Covered.{cells_cover}
use Rattle.wb_log.proofs.blockers.is_listed.Goals as goal

pub returns : goal.returns
returns c = c.is_changed.ensures ∙ cells_cover c.args.cells.now c.args.cell.now
