use Rattle.std.proofs.Common.{sym, ◌∙◌}
use Rattle.wb_sessions.proofs.Opening.{has_one}
use Rattle.wb_sessions.proofs.resuming.has_end.Goals as goal

pub returns-then-is_some : goal.returns-then-is_some
returns-then-is_some c = λ t none. has_one c.args.bytes.now c.find-then-is_some.result c.find-then-is_some.ensures (sym c.is_some-then-is_some.ensures ∙ t) none
