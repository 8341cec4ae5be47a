use Rattle.wb_literals.specs.Said.{items}
use Rattle.wb_literals.specs.Limits.Literals.{listed_in}
use Rattle.wb_text.proofs.Listing.{is_there}
use Rattle.wb_text.proofs.workbook.putting.index_at.Goals as goal

pub unreachable-requires : goal.unreachable-requires
unreachable-requires c = is_there (listed_in (items c.args.set.now)) c.args.place c.requires (c.in-None.ensures)
