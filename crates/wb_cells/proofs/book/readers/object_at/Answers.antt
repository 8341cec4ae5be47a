use Rattle.std.proofs.Common.{List, slice_get, sym, ap, ◌∙◌}
use Rattle.wb_cells.specs.Cells.{Name}
use Rattle.wb_cells.proofs.PartsSeen.{objects_are}
use Rattle.wb_cells.proofs.book.readers.object_at.Goals as goal

pub returns : goal.returns
returns c = rw (← c.cells.view_is) (
    c.nth_object.ensures
    ∙ ap (λ (ns : List Name). slice_get ns c.args.p) (sym (objects_are c.cells.inside.low c.cells.inside.members c.cells.inside.high c.cells.invariant)))
