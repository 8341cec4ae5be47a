use Rattle.std.proofs.Common.{◌≡◌, ℤ, List, refl, ap, subst, ◌∙◌}
use Rattle.std.specs.Map.{keys_of}
use Rattle.std.specs.Prelude.{IfSome}
use Rattle.wb_cells.specs.declared.values.index.Index.{Index}
use Rattle.wb_cells.specs.Cells.{Contents}
use Rattle.wb_cells.specs.Readers.{elements}
use Rattle.wb_cells.specs.Shapes.{indices}
use Rattle.wb_book.specs.Kept.{array_in, pairs_of}
use Rattle.wb_book.proofs.Seen.{elements_are}
use Rattle.wb_book.proofs.shelf.Book.rectangle.Goals as goal

pub returns : goal.returns
returns c =
    let a = c.args.array.now in
    let es : List (Index × ℤ) = pairs_of (array_in c.self.inside.arrays.entries a) in
    subst (λ (xs : List (Index × ℤ)). IfSome c.ranges-2.result (λ rs. keys_of xs ≡ indices rs))
    (elements_are c.self.inside.cells c.self.inside.arrays a es c.self.invariant refl c.ranges-2.ensures.ascending
    ∙ ap (λ (s : Contents). elements s.cells a) c.self.view_is) c.ranges-2.ensures.ranges
