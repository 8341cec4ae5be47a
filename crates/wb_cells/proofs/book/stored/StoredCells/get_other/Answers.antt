use Rattle.std.proofs.Common.{sym, ◌∙◌}
use Rattle.wb_cells.proofs.Parts.{told_high, value-low, value-high}
use Rattle.wb_cells.proofs.book.stored.StoredCells.get_other.Goals as goal

pub returns-then-is_low : goal.returns-then-is_low
returns-then-is_low c = rw (← c.self.view_is) (
    c.copied.ensures ∙ c.get.ensures.value
    ∙ sym (value-low c.self.inside.low c.self.inside.members c.self.inside.high c.self.invariant c.args.cell.now (sym c.is_low.ensures ∙ c.if-is_low.true)))

pub returns : goal.returns
returns c = rw (← c.self.view_is) (
    c.copied-2.ensures ∙ c.get-2.ensures.value
    ∙ sym (value-high c.self.inside.low c.self.inside.members c.self.inside.high c.self.invariant c.args.cell.now
    (told_high c.args.cell.now c.requires (sym c.is_low.ensures ∙ c.if-is_low.false))))
