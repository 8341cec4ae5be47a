use Rattle.std.proofs.Common.{ℤ, List, refl, ap, subst, ◌∙◌}
use Rattle.wb_cells.specs.declared.values.index.Index.{Index}
use Rattle.wb_cells.specs.Cells.{Contents}
use Rattle.wb_cells.specs.Readers.{elements}
use Rattle.wb_arrays.specs.Reductions.{IsReduced}
use Rattle.wb_book.specs.Kept.{array_in, pairs_of}
use Rattle.wb_book.proofs.Seen.{elements_are}
use Rattle.wb_book.proofs.shelf.Book.reduce.Goals as goal

pub returns-clause-answer : goal.returns-clause-answer
returns-clause-answer g c =
    let a = c.args.array.now in
    let es : List (Index × ℤ) = pairs_of (array_in c.self.inside.arrays.entries a) in
    subst (λ (xs : List (Index × ℤ)). IsReduced c.args.op xs c.reduce.result)
    (elements_are c.self.inside.cells c.self.inside.arrays a es c.self.invariant refl c.reduce.ensures.ascending
    ∙ ap (λ (s : Contents). elements s.cells a) c.self.view_is) c.reduce.ensures.answer
