use Rattle.std.proofs.Common.{is_some, ap, ◌∙◌}
use Rattle.wb_cells.specs.Locales.{locale_held}
use Rattle.wb_cells.proofs.Lying.{locale_there, held_there}
use Rattle.wb_book.proofs.Stored.{locale-stored}
use Rattle.wb_book.specs.Shelf.{cells_of}
use Rattle.wb_book.proofs.Answered.{answered}
use Rattle.wb_book.proofs.shelf.Book.locale_of.Goals as goal

pub returns-clause-value : goal.returns-clause-value
returns-clause-value c =
    let d = c.args.domain.now in
    let i = c.args.index.now in
    let held = c.locale_at.ensures ∙ answered (λ s. locale_held s d i) (λ s. locale-stored s d i) c.self.inside.cells c.self.inside.arrays c.self.invariant in
    rw (← c.self.view_is) (held ∙ held_there (cells_of c.self.inside.cells c.self.inside.arrays) c.self.invariant.well_formed d i)

pub returns-clause-there : goal.returns-clause-there
returns-clause-there c =
    let d = c.args.domain.now in
    let i = c.args.index.now in
    let s = cells_of c.self.inside.cells c.self.inside.arrays in
    let held = c.locale_at.ensures ∙ answered (λ t. locale_held t d i) (λ t. locale-stored t d i) c.self.inside.cells c.self.inside.arrays c.self.invariant in
    rw (← c.self.view_is) (ap (λ o. is_some o) (held ∙ held_there s c.self.invariant.well_formed d i) ∙ locale_there s c.self.invariant.well_formed d i)
