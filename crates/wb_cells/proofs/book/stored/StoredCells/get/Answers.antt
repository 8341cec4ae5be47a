use Rattle.std.proofs.Common.{sym, ap, ◌∙◌}
use Rattle.wb_cells.specs.Stored.{whole, value_in}
use Rattle.wb_cells.specs.WellFormed.{present_if}
use Rattle.wb_cells.proofs.Parts.{told_member, value-member}
use Rattle.wb_cells.proofs.book.stored.StoredCells.get.Goals as goal

pub returns-in-Some : goal.returns-in-Some
returns-in-Some c = rw (← c.self.view_is) (
    c.present_if.ensures ∙ ap present_if c.is_member.ensures
    ∙ sym (value-member c.self.inside.low c.self.inside.members c.self.inside.high c.self.invariant c.in-Some.member.0 c.in-Some.member.1)
    ∙ ap (value_in (whole c.self.inside.low.entries c.self.inside.members.entries c.self.inside.high.entries))
    (sym (told_member c.args.cell.now c.in-Some.member.0 c.in-Some.member.1 (sym c.member_of.ensures ∙ c.in-Some.is))))
