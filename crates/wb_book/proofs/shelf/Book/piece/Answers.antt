use Rattle.std.proofs.Common.{ℕ, ℤ, List, Option, refl, ap, ◌∙◌}
use Rattle.wb_cells.specs.declared.values.index.Index.{Index}
use Rattle.wb_cells.specs.Cells.{Name, Cells, Contents}
use Rattle.wb_cells.specs.WellFormed.{array_at}
use Rattle.wb_dist.specs.Maps.{LayoutMap}
use Rattle.wb_book.specs.Kept.{array_in, pairs_of}
use Rattle.wb_book.specs.Shelf.{cells_of, lies_by, piece_by, piece_at}
use Rattle.wb_book.proofs.Seen.{elements_are}
use Rattle.wb_book.proofs.shelf.Book.piece.Goals as goal

pub returns : goal.returns
returns c =
    let a : Name = c.args.array.now in
    let l : ℕ = c.args.locale in
    let s : Cells = cells_of c.self.inside.cells c.self.inside.arrays in
    let es : List (Index × ℤ) = pairs_of (array_in c.self.inside.arrays.entries a) in
    c.piece.ensures.piece
    ∙ ap (λ (o : Option (LayoutMap × ℕ)). piece_by o es l) (c.self.invariant.lie a)
    ∙ ap (λ (xs : List (Index × ℤ)). piece_by (lies_by s (array_at s a)) xs l)
    (elements_are c.self.inside.cells c.self.inside.arrays a es c.self.invariant refl c.piece.ensures.ascending)
    ∙ ap (λ (t : Contents). piece_at t.cells a l) c.self.view_is
