use Rattle.std.proofs.Common.{None, sym, ◌∙◌}
use Rattle.wb_cells.specs.Stored.{stored_of}
use Rattle.wb_cells.proofs.Parts.{told_high, low-kept, high-kept, low-set, high-set, state-cleared}
use Rattle.wb_cells.proofs.book.stored.StoredCells.remove_other.Goals as goal

pub returns-then-is_low : goal.returns-then-is_low
returns-then-is_low c = rw (← c.self.view_is) (
    let low = c.take.new.cells in
    let here = sym c.is_low.ensures ∙ c.if-is_low.true in
    state-cleared (stored_of c.self.inside.low c.self.inside.members c.self.inside.high) (stored_of low c.self.inside.members c.self.inside.high) c.args.cell.now
    (low-set c.self.inside.low c.self.inside.members c.self.inside.high c.self.invariant low c.args.cell.now None
    (low-kept c.self.inside.low c.self.inside.members c.self.inside.high c.self.invariant low c.args.cell.now None here c.take.ensures.taken
    c.take.ensures.ordered)
    here c.take.ensures.taken))

pub invariant_of-self : goal.invariant_of-self
invariant_of-self c =
    low-kept c.self.inside.low c.self.inside.members c.self.inside.high c.self.invariant c.take.new.cells c.args.cell.now None
    (sym c.is_low.ensures ∙ c.if-is_low.true) c.take.ensures.taken c.take.ensures.ordered

pub returns : goal.returns
returns c = rw (← c.self.view_is) (
    let high = c.take-2.new.cells in
    let here = told_high c.args.cell.now c.requires (sym c.is_low.ensures ∙ c.if-is_low.false) in
    state-cleared (stored_of c.self.inside.low c.self.inside.members c.self.inside.high) (stored_of c.self.inside.low c.self.inside.members high) c.args.cell.now
    (high-set c.self.inside.low c.self.inside.members c.self.inside.high c.self.invariant high c.args.cell.now None
    (high-kept c.self.inside.low c.self.inside.members c.self.inside.high c.self.invariant high c.args.cell.now None here c.take-2.ensures.taken
    c.take-2.ensures.ordered)
    here c.take-2.ensures.taken))

pub invariant_of-self-2 : goal.invariant_of-self-2
invariant_of-self-2 c =
    high-kept c.self.inside.low c.self.inside.members c.self.inside.high c.self.invariant c.take-2.new.cells c.args.cell.now None
    (told_high c.args.cell.now c.requires (sym c.is_low.ensures ∙ c.if-is_low.false))
    c.take-2.ensures.taken c.take-2.ensures.ordered
