use Rattle.std.proofs.Common.{ap}
use Rattle.wb_desk.specs.Locked.{Locked}
use Rattle.wb_desk.proofs.shared.Shared.cause.Goals as goal

pub returns-clause-cause : goal.returns-clause-cause
returns-clause-cause g c = rw (ap (λ (s : Locked). s.course) c.self.view_is) at c.cause.ensures
