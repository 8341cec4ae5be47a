use Rattle.std.proofs.Common.{List, sym, subst, ◌∙◌}
use Rattle.wb_range.specs.Domain.{IsListedOnce}
use Rattle.wb_cells.specs.declared.values.index.Index.{Index}
use Rattle.wb_edit.proofs.Members.{members_once}
use Rattle.wb_edit.proofs.commands.writes.clear_each_member.Goals as goal

pub become_listed-requires-clause-once : goal.become_listed-requires-clause-once
become_listed-requires-clause-once c =
    subst (λ (is : List Index). IsListedOnce is) (sym (c.deref.ensures.value ∙ c.in-Ok.ensures.same)) (members_once c.args.book.now.cells c.args.domain)
