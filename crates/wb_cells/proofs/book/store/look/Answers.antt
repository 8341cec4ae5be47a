use Rattle.std.proofs.Common.{sym, ◌∙◌}
use Rattle.wb_cells.proofs.Shown.{get-state_of}
use Rattle.wb_cells.proofs.book.store.look.Goals as goal

pub returns : goal.returns
returns c = c.get.ensures ∙ sym (get-state_of c.args.cells.now c.args.cell)
