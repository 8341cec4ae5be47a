use Rattle.std.proofs.Common.{List, sym, ap, ◌∙◌}
use Rattle.wb_cells.specs.declared.values.index.Index.{Index}
use Rattle.wb_cells.specs.Stored.{member_cells}
use Rattle.wb_cells.proofs.PartsSeen.{seen_members}
use Rattle.wb_cells.proofs.book.families.seen_members.Goals as goal

pub returns-in-Ok-cells_of : goal.returns-in-Ok-cells_of
returns-in-Ok-cells_of c = rw (← c.cells.view_is) (
    c.in-Ok-cells_of.ensures ∙ ap (λ (is : List Index). member_cells (c.args.domain.now, is)) (c.deref.ensures.value ∙ c.in-Ok.ensures)
    ∙ sym (seen_members c.cells.inside.low c.cells.inside.members c.cells.inside.high c.cells.invariant c.args.domain.now))
