use Rattle.std.proofs.Common.{refl, ◌∙◌}
use Rattle.wb_edit.proofs.commands.domain.domain_changes.Goals as goal

pub returns : goal.returns
returns c =
    c.in_ok-put_all.ensures.ok
    ∙ rw (c.in_ok-put-3.ensures.ok, c.in_ok-put-2.ensures.ok, c.in_ok-put.ensures.ok, c.new-delta.ensures, c.new-kind.ensures, c.rank.ensures.value) refl
