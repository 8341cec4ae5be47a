use Rattle.std.proofs.Common.{refl, ◌∙◌}
use Rattle.wb_edit.proofs.commands.resized.member_changes.Goals as goal

pub clear_members-requires : goal.clear_members-requires
clear_members-requires c = λ i. rw (c.new-delta.ensures) refl

pub returns : goal.returns
returns c = c.in_ok-clear_members.ensures.ok ∙ rw (c.new-delta.ensures) refl
