use Rattle.std.proofs.Common.{slice_get, ap, ◌∙◌}
use Rattle.wb_cells.specs.Readers.{objects}
use Rattle.wb_book.proofs.Stored.{objects-stored}
use Rattle.wb_book.proofs.Answered.{answered}
use Rattle.wb_book.proofs.shelf.Book.object.Goals as goal

pub returns : goal.returns
returns c = rw (← c.self.view_is) (c.object_at.ensures
    ∙ answered (λ s. slice_get (objects s) c.args.p) (λ s. ap (λ ns. slice_get ns c.args.p) (objects-stored s)) c.self.inside.cells c.self.inside.arrays
    c.self.invariant)
