use Rattle.std.proofs.Common.{sym, ap, ◌∙◌}
use Rattle.std.specs.FinMap as map
use Rattle.wb_cells.specs.Cells.{Contents}
use Rattle.wb_book.proofs.Kept.{get-cells_of}
use Rattle.wb_book.proofs.shelf.Book.get.Goals as goal

pub returns : goal.returns
returns c = c.look.ensures ∙ sym (get-cells_of c.self.inside.cells c.self.inside.arrays c.self.invariant c.args.cell.now)
    ∙ ap (λ (s : Contents). map.get s.cells c.args.cell.now) c.self.view_is
