use Rattle.std.proofs.Common.{sym, ◌∙◌, subst}
use Rattle.wb_sessions.specs.Resuming.{failed_in, reads_in}
use Rattle.wb_sessions.specs.Running.{HasFailed}
use Rattle.wb_sessions.proofs.Statuses.{failed_ends}
use Rattle.wb_sessions.proofs.resuming.go_on.Goals as goal

pub returns-clause-failed : goal.returns-clause-failed
returns-clause-failed g c h =
    let reader = c.session.new.reader in
    let write_failed = g.W.Sink.failed c.session.new.writer in
    let told = failed_ends _ _ _ _ _ _ _ c.session.ensures.read c.session.ensures.written (sym c.status_of.ensures ∙ h) in
    subst (λ before. HasFailed (failed_in reader) before (reads_in reader) write_failed) c.put_back.ensures.reads told
