use Rattle.std.proofs.Common.{sym, ap, ◌∙◌}
use Rattle.std.specs.FinMap.{remove}
use Rattle.wb_cells.specs.declared.cells.cell.Cell.TheVariants.{Member}
use Rattle.wb_cells.specs.Cells.{state_of}
use Rattle.wb_cells.specs.Stored.{stored_of}
use Rattle.wb_cells.proofs.Parts.{told_member, sets-kept, member-cleared, state-cleared}
use Rattle.wb_cells.proofs.book.stored.StoredCells.remove.Goals as goal

pub returns-in-Some : goal.returns-in-Some
returns-in-Some c = rw (← c.self.view_is) (
    let sets = c.take_member.new.sets in
    let old = stored_of c.self.inside.low c.self.inside.members c.self.inside.high in
    state-cleared old (stored_of c.self.inside.low sets c.self.inside.high) (Member c.in-Some.member.0 c.in-Some.member.1)
    (member-cleared c.self.inside.low c.self.inside.members c.self.inside.high c.self.invariant sets c.in-Some.member.0 c.in-Some.member.1
    (sets-kept c.self.inside.low c.self.inside.members c.self.inside.high c.self.invariant sets c.take_member.ensures.ordered c.take_member.ensures.each)
    c.take_member.ensures.taken)
    ∙ ap (remove (state_of old))
    (sym (told_member c.args.cell.now c.in-Some.member.0 c.in-Some.member.1 (sym c.member_of.ensures ∙ c.in-Some.is))))

pub invariant_of-self : goal.invariant_of-self
invariant_of-self c =
    sets-kept c.self.inside.low c.self.inside.members c.self.inside.high c.self.invariant c.take_member.new.sets c.take_member.ensures.ordered
    c.take_member.ensures.each
