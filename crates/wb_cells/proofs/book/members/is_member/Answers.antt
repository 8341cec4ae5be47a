use Rattle.std.proofs.Common.{ap, ◌∙◌}
use Rattle.wb_cells.specs.Stored.{has_index}
use Rattle.wb_cells.proofs.book.members.is_member.Goals as goal

pub returns-in-Some : goal.returns-in-Some
returns-in-Some c = c.has.ensures ∙ ap (λ o. has_index o c.args.index.now) c.in-Some.ensures.value

pub returns-in-None : goal.returns-in-None
returns-in-None c = ap (λ o. has_index o c.args.index.now) c.in-None.ensures.value
