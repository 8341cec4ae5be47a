use Rattle.std.proofs.Common.{length, ap, ◌∙◌}
use Rattle.wb_cells.specs.Readers.{objects}
use Rattle.wb_book.proofs.Stored.{objects-stored}
use Rattle.wb_book.proofs.Answered.{answered}
use Rattle.wb_book.proofs.shelf.Book.objects.Goals as goal

pub returns : goal.returns
returns c = rw (← c.self.view_is) (c.object_count.ensures
    ∙ answered (λ s. length (objects s)) (λ s. ap (λ ns. length ns) (objects-stored s)) c.self.inside.cells c.self.inside.arrays c.self.invariant)
