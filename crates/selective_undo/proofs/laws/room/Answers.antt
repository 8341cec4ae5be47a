use Rattle.selective_undo.specs.Laws.{RoomLaw}
use Rattle.selective_undo.proofs.AllOrNothing.{of_each, room_law}
use Rattle.selective_undo.proofs.laws.room.Goals as goal

pub returns : goal.returns
returns g c = of_each g.row.Cell.Denot g.row.Value.Denot g.row.Pattern.Denot g.row.Refusal.Denot RoomLaw room_law
