use Rattle.std.proofs.Common.{ap, ◌∙◌}
use Rattle.wb_cells.specs.Cells.{Contents}
use Rattle.wb_cells.specs.Readers.{elements}
use Rattle.wb_book.proofs.Seen.{elements_are, both_ok}
use Rattle.wb_book.proofs.shelf.Book.elements.Goals as goal

pub returns : goal.returns
returns c =
    both_ok c.elements.result _ _ _ c.elements.ensures.pairs c.elements.ensures.ascending
    (λ v is sorted. elements_are c.self.inside.cells c.self.inside.arrays c.args.name.now v.items c.self.invariant is sorted
    ∙ ap (λ (s : Contents). elements s.cells c.args.name.now) c.self.view_is)
