use Rattle.std.proofs.Common.{List, slice_get, sym, ap, subst, ◌∙◌}
use Rattle.wb_cells.specs.Cells.{Name, Stored, state_of}
use Rattle.wb_cells.specs.Families.{AreNamed}
use Rattle.wb_cells.proofs.PartsSeen.{users_are, high_named}
use Rattle.wb_cells.proofs.book.readers.user_at.Goals as goal

pub nth_user-requires : goal.nth_user-requires
nth_user-requires c =
    high_named c.cells.inside.low c.cells.inside.members c.cells.inside.high c.cells.invariant (subst (λ (m : Stored). AreNamed (state_of m)) (sym c.cells.view_is) c.requires)

pub returns : goal.returns
returns c = rw (← c.cells.view_is) (
    c.nth_user.ensures
    ∙ ap (λ (ns : List Name). slice_get ns c.args.p)
    (sym (users_are c.cells.inside.low c.cells.inside.members c.cells.inside.high c.cells.invariant c.args.domain)))
