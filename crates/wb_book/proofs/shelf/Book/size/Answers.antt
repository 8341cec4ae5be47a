use Rattle.std.proofs.Common.{is_some, ap, ◌∙◌}
use Rattle.wb_cells.specs.Readers.{size_at}
use Rattle.wb_cells.proofs.Lying.{size_there}
use Rattle.wb_book.proofs.Stored.{size-stored}
use Rattle.wb_book.specs.Shelf.{cells_of}
use Rattle.wb_book.proofs.Answered.{answered}
use Rattle.wb_book.proofs.shelf.Book.size.Goals as goal

pub returns-clause-value : goal.returns-clause-value
returns-clause-value c =
    let d = c.args.name.now in
    rw (← c.self.view_is) (c.size_at.ensures ∙ answered (λ s. size_at s d) (λ s. size-stored s d) c.self.inside.cells c.self.inside.arrays c.self.invariant)

pub returns-clause-there : goal.returns-clause-there
returns-clause-there c =
    let d = c.args.name.now in
    let value = c.size_at.ensures ∙ answered (λ s. size_at s d) (λ s. size-stored s d) c.self.inside.cells c.self.inside.arrays c.self.invariant in
    rw (← c.self.view_is) (ap (λ o. is_some o) value ∙ size_there (cells_of c.self.inside.cells c.self.inside.arrays) d c.self.invariant.well_formed)
