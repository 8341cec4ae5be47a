use Rattle.std.proofs.Common.{refl}
use Rattle.wb_sessions.proofs.MadeAnew.{ends}
use Rattle.wb_sessions.proofs.compacting.anew.Goals as goal

pub returns-clause-ends : goal.returns-clause-ends
returns-clause-ends g c =
    let told = c.compact-made.ensures in
    ends g.D.Device c.args.kept.state.entries c.args.kept.log c.compact-made.new.log c.compact-made.result _ told.settled told.has_edits told.one_line
    told.memory told.failed c.outcome_of-status.ensures refl
