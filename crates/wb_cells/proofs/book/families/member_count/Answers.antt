use Rattle.std.proofs.Common.{List, length, sym, ap, ◌∙◌}
use Rattle.wb_cells.specs.declared.values.index.Index.{Index}
use Rattle.wb_cells.proofs.PartsSeen.{members_are}
use Rattle.wb_cells.proofs.book.families.member_count.Goals as goal

pub returns : goal.returns
returns c = rw (← c.cells.view_is) (
    c.count_members.ensures
    ∙ ap (λ (is : List Index). length is) (sym (members_are c.cells.inside.low c.cells.inside.members c.cells.inside.high c.cells.invariant c.args.domain)))
