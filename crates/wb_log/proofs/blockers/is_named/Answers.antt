use Rattle.std.proofs.Common.{◌∙◌}
use Rattle.wb_log.proofs.Covered.{alone_covers}
use Rattle.wb_log.proofs.blockers.is_named.Goals as goal

pub returns : goal.returns
returns c = c.matches.ensures ∙ alone_covers c.args.pattern.now c.args.cell.now
