use Rattle.std.proofs.Common.{refl}
use Rattle.wb_seats.proofs.early.answer_at.Goals as goal

pub returns-in-Ok : goal.returns-in-Ok
returns-in-Ok g c = rw c.in-EditsFrom.is (c.in-Ok.told, refl)

pub returns-in-Ok-standing : goal.returns-in-Ok-standing
returns-in-Ok-standing g c = rw c.in-Desk.is (c.in-Ok-standing.desk, refl)
