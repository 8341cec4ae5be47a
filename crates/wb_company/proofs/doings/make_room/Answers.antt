use Rattle.std.proofs.Common.{arith}
use Rattle.wb_company.proofs.Notes.{room_there}
use Rattle.wb_company.proofs.doings.make_room.Goals as goal

pub returns-then-len-lt-MOST_KEPT : goal.returns-then-len-lt-MOST_KEPT
returns-then-len-lt-MOST_KEPT c = room_there _ (omega (arith, c.if-len-lt-MOST_KEPT.true, c.len.ensures, c.args.kept.now.ok.0))
