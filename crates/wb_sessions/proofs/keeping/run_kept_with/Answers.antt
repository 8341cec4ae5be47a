use Rattle.std.proofs.Common.{inl}
use Rattle.wb_sessions.proofs.keeping.run_kept_with.Goals as goal

pub returns-in-Ok-clause-runs : goal.returns-in-Ok-clause-runs
returns-in-Ok-clause-runs g c = inl (record { opened = c.in-Ok.kept; is_opened = c.in-Ok.ensures.ok; serves = c.serve_from.ensures.serves })
