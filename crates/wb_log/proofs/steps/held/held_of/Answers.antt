use Rattle.std.proofs.Common.{sym, subst}
use Rattle.selective_undo.specs.Changes.{AllOnce}
use Rattle.selective_undo.proofs.AllOrNothing.{once-inverse}
use Rattle.wb_cells.specs.Cells.{cell_cmp}
use Rattle.wb_log.proofs.steps.held.held_of.Goals as goal

pub new-requires-in-Ok-Some-clause-once : goal.new-requires-in-Ok-Some-clause-once
new-requires-in-Ok-Some-clause-once c =
    let told = rw c.in-Ok-Some.field-0-is at c.in-Ok-Some.ensures in
    subst (AllOnce cell_cmp) (sym told) (once-inverse c.changes.result.now c.args.book.now.cells (subst (AllOnce cell_cmp) (sym c.changes.ensures.same) c.changes.ensures.once))
