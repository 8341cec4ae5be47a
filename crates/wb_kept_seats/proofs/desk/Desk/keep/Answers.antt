use Rattle.std.proofs.Common.{Err, ap}
use Rattle.wb_kept_seats.proofs.Committing.{failed_by}
use Rattle.wb_kept_seats.proofs.desk.Desk.keep.Goals as goal

pub returns-in-Err-clause-failed : goal.returns-in-Err-clause-failed
returns-in-Err-clause-failed g c other =
    let by = failed_by g.D.Device.faults c.in-Err.error c.of-in-Err.result c.of-in-Err.ensures other in
    let failed = c.in-Err.ensures.failed by.0 (ap (λ e. Err e) by.1) in
    let old = failed.0.0.journal.log in
    let new = failed.2.0.journal.log in
    let told = by.2 old new failed.2.3 in
    (old, new, record { before = failed.0.1; turns = failed.2.1; settled = failed.1.settled; lines = failed.1.lines_are; moments = failed.2.2; failed = told.0; untouched = told.1 })
