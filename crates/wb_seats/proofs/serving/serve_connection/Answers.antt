use Rattle.wb_seats.proofs.Behind.{behind_door}
use Rattle.wb_seats.proofs.serving.serve_connection.Goals as goal

pub returns : goal.returns
returns g c = behind_door g.I.Source g.O.Sink g.S.Settlings.answers _ _ _ _ _ _ _ c.of-door.ensures c.serve_seat.ensures
