use Rattle.std.proofs.Common.{sym, ◌∙◌}
use Rattle.wb_sessions.proofs.Statuses.{done_ends, failed_ends}
use Rattle.wb_sessions.proofs.running.run_with.Goals as goal

pub returns-clause-done : goal.returns-clause-done
returns-clause-done g c h = done_ends _ _ _ _ _ _ _ c.session.ensures.read c.session.ensures.written (sym c.status_of.ensures ∙ h)

pub returns-clause-failed : goal.returns-clause-failed
returns-clause-failed g c h = failed_ends _ _ _ _ _ _ _ c.session.ensures.read c.session.ensures.written (sym c.status_of.ensures ∙ h)
