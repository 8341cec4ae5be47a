use Rattle.std.proofs.Common.{List, None, sym, ap, ◌∙◌}
use Rattle.selective_undo.specs.Changes.{apply, clears}
use Rattle.wb_cells.specs.declared.values.index.Index.{Index}
use Rattle.wb_cells.specs.Cells.{state_of}
use Rattle.wb_cells.specs.MemberRuns.{members_to}
use Rattle.wb_cells.specs.Stored.{stored_of}
use Rattle.wb_cells.proofs.MemberRuns.{members_cleared}
use Rattle.wb_cells.proofs.Parts.{sets-kept}
use Rattle.wb_cells.proofs.PartsSeen.{members_are}
use Rattle.wb_cells.proofs.book.stored.StoredCells.remove_members.Goals as goal

pub returns : goal.returns
returns c = rw (← c.self.view_is) (
    let low = c.self.inside.low in
    let sets = c.self.inside.members in
    let high = c.self.inside.high in
    let d = c.args.domain.now in
    members_cleared low sets high c.self.invariant c.drop_members.new.sets d
    (sets-kept low sets high c.self.invariant c.drop_members.new.sets c.drop_members.ensures.ordered c.drop_members.ensures.each)
    c.drop_members.ensures.dropped
    ∙ ap (λ (is : List Index). apply (clears (members_to d None is)) (state_of (stored_of low sets high)))
    (sym (members_are low sets high c.self.invariant d)))

pub invariant_of-self : goal.invariant_of-self
invariant_of-self c =
    sets-kept c.self.inside.low c.self.inside.members c.self.inside.high c.self.invariant c.drop_members.new.sets c.drop_members.ensures.ordered
    c.drop_members.ensures.each
