use Rattle.std.proofs.Common.{List, length, sym, ap, ◌∙◌}
use Rattle.wb_cells.specs.Cells.{Name}
use Rattle.wb_cells.proofs.PartsSeen.{objects_are}
use Rattle.wb_cells.proofs.book.readers.object_count.Goals as goal

pub returns : goal.returns
returns c = rw (← c.cells.view_is) (
    c.count_objects.ensures
    ∙ ap (λ (ns : List Name). length ns) (sym (objects_are c.cells.inside.low c.cells.inside.members c.cells.inside.high c.cells.invariant)))
