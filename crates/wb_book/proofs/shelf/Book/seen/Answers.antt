use Rattle.std.proofs.Common.{sym, ap, subst, ◌∙◌}
use Rattle.wb_cells.specs.declared.cells.pattern.Pattern.{Pattern}
use Rattle.wb_cells.specs.declared.cells.pattern.Pattern.TheVariants.{One, Elements}
use Rattle.wb_cells.specs.Cells.{Contents}
use Rattle.wb_cells.specs.Readers.{seen}
use Rattle.wb_book.specs.Kept.{element_cells}
use Rattle.wb_book.proofs.Kept.{get-cells_of}
use Rattle.wb_book.proofs.Stored.{NamesStored, seen-stored, objects_stored, members_stored, uses_stored}
use Rattle.wb_book.proofs.Answered.{answered, are_named}
use Rattle.wb_book.proofs.Seen.{seen_elements, seen_one, one_ok}
use Rattle.wb_book.proofs.shelf.Book.seen.Goals as goal

pub returns-in_ok-pairs-in-Elements : goal.returns-in_ok-pairs-in-Elements
returns-in_ok-pairs-in-Elements c =
    let a = c.in-Elements.array in
    let es = c.in_ok-pairs-in-Elements.pairs.items in
    one_ok c.element_cells.result _ _ c.element_cells.ensures (λ v is.
    is ∙ ap (element_cells a) c.as_slice.ensures.value
    ∙ sym (seen_elements c.self.inside.cells c.self.inside.arrays a es c.self.invariant c.in_ok-pairs-in-Elements.ensures.pairs
    c.in_ok-pairs-in-Elements.ensures.ascending)
    ∙ ap (λ (s : Contents). seen s.cells (Elements a)) c.self.view_is
    ∙ ap (λ (p : Pattern). seen c.args.self.now.cells p) (sym c.in-Elements.is))

pub returns-in-One : goal.returns-in-One
returns-in-One c =
    let x = c.cell-cell.result in
    one_ok c.one_cell.result _ _ c.one_cell.ensures (λ v is.
    is
    ∙ sym (seen_one _ x c.look.result (c.look.ensures ∙ sym (get-cells_of c.self.inside.cells c.self.inside.arrays c.self.invariant x)))
    ∙ ap (λ (s : Contents). seen s.cells (One x)) c.self.view_is
    ∙ ap (λ y. seen c.args.self.now.cells (One y)) c.cell-cell.ensures
    ∙ ap (λ (p : Pattern). seen c.args.self.now.cells p) (sym c.in-One.is))

pub returns-in-Objects : goal.returns-in-Objects
returns-in-Objects c =
    let p : Pattern = c.args.pattern.now in
    let named = subst (λ (q : Pattern). NamesStored q) (sym c.in-Objects.is) (objects_stored) in
    one_ok c.seen.result _ _ c.seen.ensures (λ v is.
    rw (← c.self.view_is) (is ∙ answered (λ s. seen s p) (λ s. seen-stored s p named) c.self.inside.cells c.self.inside.arrays c.self.invariant))

pub returns-in-Members : goal.returns-in-Members
returns-in-Members c =
    let p : Pattern = c.args.pattern.now in
    let named = subst (λ (q : Pattern). NamesStored q) (sym c.in-Members.is) (members_stored c.in-Members.field-0) in
    one_ok c.seen-in-Members.result _ _ c.seen-in-Members.ensures (λ v is.
    rw (← c.self.view_is) (is ∙ answered (λ s. seen s p) (λ s. seen-stored s p named) c.self.inside.cells c.self.inside.arrays c.self.invariant))

pub returns-in-Uses : goal.returns-in-Uses
returns-in-Uses c =
    let p : Pattern = c.args.pattern.now in
    let named = subst (λ (q : Pattern). NamesStored q) (sym c.in-Uses.is) (uses_stored c.in-Uses.field-0) in
    one_ok c.seen-in-Uses.result _ _ c.seen-in-Uses.ensures (λ v is.
    rw (← c.self.view_is) (is ∙ answered (λ s. seen s p) (λ s. seen-stored s p named) c.self.inside.cells c.self.inside.arrays c.self.invariant))

pub seen-requires : goal.seen-requires
seen-requires c = are_named c.self.inside.cells c.self.inside.arrays c.self.invariant

pub seen-requires-in-Members : goal.seen-requires-in-Members
seen-requires-in-Members c = are_named c.self.inside.cells c.self.inside.arrays c.self.invariant

pub seen-requires-in-Uses : goal.seen-requires-in-Uses
seen-requires-in-Uses c = are_named c.self.inside.cells c.self.inside.arrays c.self.invariant
