use Rattle.std.proofs.Common.{◌++◌, subst}
use Rattle.wb_cells.specs.Reads.{all_read}
use Rattle.wb_log.specs.Sets.{NameAlike}
use Rattle.wb_log.proofs.Alike.{first_alike}
use Rattle.wb_log.proofs.cells_were.CellsWere.reads.Goals as goal

pub returns : goal.returns
returns c = subst (λ k. NameAlike k.footprint (c.self.inside.first ++ all_read c.self.inside.cells)) c.self.view_is
    (first_alike c.self.inside.first c.self.inside.cells c.self.invariant)
