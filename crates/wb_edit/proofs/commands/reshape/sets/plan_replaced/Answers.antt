use Rattle.std.proofs.Common.{◌≡◌, List, [], sym, subst, ◌∙◌}
use Rattle.wb_range.specs.Domain.{IsListedOnce}
use Rattle.wb_cells.specs.declared.values.index.Index.{Index}
use Rattle.wb_cells.specs.Cells.{Name}
use Rattle.wb_cells.specs.Readers.{members}
use Rattle.wb_edit.specs.Commands.Reshape.{with_indices}
use Rattle.wb_edit.specs.Plans.{Attempts}
use Rattle.wb_edit.specs.Trees.{Tree}
use Rattle.wb_edit.proofs.Emptied.{emptied, empty_list}
use Rattle.wb_edit.proofs.Members.{members_once}
use Rattle.wb_edit.proofs.commands.reshape.sets.plan_replaced.Goals as goal

pub returns-then-is_empty : goal.returns-then-is_empty
returns-then-is_empty c =
    let d : Name = c.args.domain in
    let none : c.args.new.now ≡ [] = empty_list c.args.new.now (sym c.is_empty.ensures ∙ c.if-is_empty.true) in
    subst (λ (t : Tree). Attempts t c.args.book.now.cells c.args.footprint.now c.plan_emptied.result c.plan_emptied.new.footprint)
    (sym (emptied d c.args.kind.now (members c.args.book.now.cells d) c.args.new.now none)) c.plan_emptied.ensures

pub plan_with_indices-requires-clause-old : goal.plan_with_indices-requires-clause-old
plan_with_indices-requires-clause-old c =
    subst (λ (is : List Index). IsListedOnce is) (sym (c.deref.ensures.value ∙ c.in-Ok.ensures.same)) (members_once c.args.book.now.cells c.args.domain)
