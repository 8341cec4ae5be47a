use Rattle.std.proofs.Common.{sym, subst}
use Rattle.std.proofs.lemmas.Result.{IfOk-weaker}
use Rattle.std.specs.List.Sorted.{IsStrictlySortedBy}
use Rattle.wb_cells.specs.Cells.{index_cmp}
use Rattle.wb_edit.proofs.Members.{members_ascending}
use Rattle.wb_edit.proofs.looks.indices.listed_members.Goals as goal

pub returns-clause-ascending : goal.returns-clause-ascending
returns-clause-ascending c =
    IfOk-weaker c.members.result _ _ (λ v is. subst (IsStrictlySortedBy index_cmp) (sym is) (members_ascending c.args.book.now.cells c.args.domain))
    c.members.ensures
