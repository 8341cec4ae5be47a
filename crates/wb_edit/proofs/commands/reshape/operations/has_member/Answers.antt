use Rattle.std.proofs.Common.{is_some, ap, ◌∙◌}
use Rattle.wb_edit.proofs.Members.{members_has}
use Rattle.wb_edit.proofs.commands.reshape.operations.has_member.Goals as goal

pub returns : goal.returns
returns c = c.is_some.ensures ∙ ap is_some c.get.ensures ∙ members_has c.args.book.now.cells c.args.domain c.args.index.now
