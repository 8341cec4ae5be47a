use Rattle.wb_sessions.proofs.OpenedJournals.{caused, granted_by, opened_by}
use Rattle.wb_sessions.proofs.keeping.opened.Goals as goal

pub open-requires-clause-grants : goal.open-requires-clause-grants
open-requires-clause-grants g c = λ s change r t h. granted_by s.now change.now r t.now h

pub returns-clause-ok : goal.returns-clause-ok
returns-clause-ok g c =
    let told = c.open.ensures in
    opened_by g.D.Device c.args.file c.args.held.now c.open.result told.kept told.same told.any_moment told.foreign

pub returns-clause-err : goal.returns-clause-err
returns-clause-err g c =
    let told = c.open.ensures in
    caused g.D.Device c.args.file c.args.held.now c.open.result told.refused told.foreign told.ours told.any_moment_err told.untouched told.failed told.place
