use Rattle.std.proofs.Common.{◌∙◌}
use Rattle.wb_cells.specs.Readers.{index_at}
use Rattle.wb_book.proofs.Stored.{index-stored}
use Rattle.wb_book.proofs.Answered.{answered}
use Rattle.wb_book.proofs.shelf.Book.index.Goals as goal

pub returns : goal.returns
returns c = rw (← c.self.view_is) (c.index_at.ensures
    ∙ answered (λ s. index_at s c.args.name.now c.args.p) (λ s. index-stored s c.args.name.now c.args.p) c.self.inside.cells c.self.inside.arrays
    c.self.invariant)
