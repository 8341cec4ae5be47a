use Rattle.std.proofs.Common.{List, sym, ap, ◌∙◌}
use Rattle.std.specs.FinMap.{from_entries}
use Rattle.std.proofs.lemmas.Result.{on_err_weaker}
use Rattle.wb_cells.specs.declared.values.index.Index.{Index}
use Rattle.wb_cells.specs.Cells.{Name, cell_cmp}
use Rattle.wb_cells.specs.Stored.{whole}
use Rattle.wb_cells.proofs.Parts.{told_member, sets-kept, member-state, member-absent}
use Rattle.wb_cells.proofs.book.stored.StoredCells.insert.Goals as goal

pub returns-in-Some-clause-ok : goal.returns-in-Some-clause-ok
returns-in-Some-clause-ok c = rw (← c.self.view_is) (
    member-state c.self.inside.low c.self.inside.members c.self.inside.high c.self.invariant c.put_value.result c.put_value.new.sets c.args.cell
    c.in-Some.member.0 c.in-Some.member.1 c.args.value
    (told_member c.args.cell c.in-Some.member.0 c.in-Some.member.1 (sym c.member_of.ensures ∙ c.in-Some.is))
    c.put_value.ensures.ordered c.put_value.ensures.each c.put_value.ensures.ok c.put_value.ensures.value)

pub returns-in-Some-clause-absent : goal.returns-in-Some-clause-absent
returns-in-Some-clause-absent c = rw (← c.self.view_is) (
    member-absent c.self.inside.low c.self.inside.members c.self.inside.high c.self.invariant c.put_value.result c.args.cell
    c.in-Some.member.0 c.in-Some.member.1 c.args.value
    (told_member c.args.cell c.in-Some.member.0 c.in-Some.member.1 (sym c.member_of.ensures ∙ c.in-Some.is)) c.put_value.ensures.absent)

pub returns-in-Some-clause-err : goal.returns-in-Some-clause-err
returns-in-Some-clause-err c = rw (← c.self.view_is) (
    on_err_weaker c.put_value.result
    (λ same. ap (λ (ms : List (Name × List Index)). from_entries {R = cell_cmp} (whole c.self.inside.low.entries ms c.self.inside.high.entries)) same)
    c.put_value.ensures.err)

pub invariant_of-self : goal.invariant_of-self
invariant_of-self c =
    sets-kept c.self.inside.low c.self.inside.members c.self.inside.high c.self.invariant c.put_value.new.sets c.put_value.ensures.ordered
    c.put_value.ensures.each
