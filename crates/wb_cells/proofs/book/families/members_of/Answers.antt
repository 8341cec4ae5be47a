use Rattle.std.proofs.Common.{sym, ◌∙◌}
use Rattle.wb_cells.proofs.PartsSeen.{members_are}
use Rattle.wb_cells.proofs.book.families.members_of.Goals as goal

pub returns : goal.returns
returns c = rw (← c.cells.view_is) (
    c.walk_members.ensures ∙ sym (members_are c.cells.inside.low c.cells.inside.members c.cells.inside.high c.cells.invariant c.args.domain.now))
