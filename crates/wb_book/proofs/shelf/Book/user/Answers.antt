use Rattle.std.proofs.Common.{slice_get, ap, ◌∙◌}
use Rattle.wb_cells.specs.Readers.{users}
use Rattle.wb_book.proofs.Stored.{users-stored}
use Rattle.wb_book.proofs.Answered.{answered, are_named}
use Rattle.wb_book.proofs.shelf.Book.user.Goals as goal

pub user_at-requires : goal.user_at-requires
user_at-requires c = are_named c.self.inside.cells c.self.inside.arrays c.self.invariant

pub returns : goal.returns
returns c =
    let d = c.args.name.now in
    rw (← c.self.view_is) (c.user_at.ensures
    ∙ answered (λ s. slice_get (users s d) c.args.p) (λ s. ap (λ ns. slice_get ns c.args.p) (users-stored s d)) c.self.inside.cells c.self.inside.arrays
    c.self.invariant)
