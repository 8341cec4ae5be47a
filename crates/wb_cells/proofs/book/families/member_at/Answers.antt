use Rattle.std.proofs.Common.{List, slice_get, sym, ap, ◌∙◌}
use Rattle.wb_cells.specs.declared.values.index.Index.{Index}
use Rattle.wb_cells.proofs.PartsSeen.{members_are}
use Rattle.wb_cells.proofs.book.families.member_at.Goals as goal

pub returns : goal.returns
returns c = rw (← c.cells.view_is) (
    c.nth_member.ensures
    ∙ ap (λ (is : List Index). slice_get is c.args.p)
    (sym (members_are c.cells.inside.low c.cells.inside.members c.cells.inside.high c.cells.invariant c.args.domain)))
