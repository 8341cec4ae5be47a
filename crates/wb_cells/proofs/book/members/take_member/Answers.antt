use Rattle.std.proofs.Common.{◌∙◌}
use Rattle.wb_cells.proofs.MemberMaps.{member_dropped, each_dropped}
use Rattle.wb_cells.proofs.book.members.take_member.Goals as goal

pub returns-then-take_one-clause-taken : goal.returns-then-take_one-clause-taken
returns-then-take_one-clause-taken c = λ e j.
    member_dropped c.take_one.new.sets.entries c.remove.new.self.entries c.args.domain.now (c.take_one.ensures.empty c.if-take_one.true)
    c.remove.ensures.updates.0 e j ∙ c.take_one.ensures.taken e j

pub returns-then-take_one-clause-each : goal.returns-then-take_one-clause-each
returns-then-take_one-clause-each c =
    each_dropped c.take_one.new.sets.entries c.remove.new.self.entries c.args.domain.now c.remove.ensures.updates.0 c.take_one.ensures.each
