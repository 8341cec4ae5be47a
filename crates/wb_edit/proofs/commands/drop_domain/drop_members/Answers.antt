use Rattle.std.proofs.Common.{refl, ◌∙◌}
use Rattle.wb_edit.proofs.Emptied.{members_apart}
use Rattle.wb_edit.proofs.commands.drop_domain.drop_members.Goals as goal

pub clear_members-requires : goal.clear_members-requires
clear_members-requires c = λ i. rw (c.in_ok-delta.ensures) (members_apart c.args.kind.now c.args.domain i)

pub returns : goal.returns
returns c = c.in_ok-clear_members.ensures.ok ∙ rw (c.in_ok-delta.ensures) refl
