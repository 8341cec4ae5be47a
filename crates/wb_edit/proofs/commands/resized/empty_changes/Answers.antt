use Rattle.std.proofs.Common.{List, sym, subst, ◌∙◌}
use Rattle.wb_range.specs.Domain.{IsListedOnce}
use Rattle.wb_cells.specs.declared.values.index.Index.{Index}
use Rattle.wb_cells.specs.Cells.{Name, Changes}
use Rattle.wb_cells.specs.Readers.{members}
use Rattle.wb_edit.specs.Plans.{Makes}
use Rattle.wb_edit.proofs.Emptied.{all_leave}
use Rattle.wb_edit.proofs.Members.{members_once}
use Rattle.wb_edit.proofs.commands.resized.empty_changes.Goals as goal

pub returns-then-are_alone : goal.returns-then-are_alone
returns-then-are_alone c =
    let d : Name = c.args.domain in
    subst (λ (xs : Changes). Makes xs c.member_changes.result)
    (sym (all_leave c.args.kind.now d c.args.brought.now (members c.args.book.now.cells d) (c.are_alone.ensures.fills c.if-are_alone.true)
    (c.are_alone.ensures.members c.if-are_alone.true d)))
    c.member_changes.ensures

pub resize_changes-requires-clause-leaving : goal.resize_changes-requires-clause-leaving
resize_changes-requires-clause-leaving c =
    subst (λ (is : List Index). IsListedOnce is) (sym (c.deref.ensures.value ∙ c.in-Ok.ensures.same)) (members_once c.args.book.now.cells c.args.domain)
