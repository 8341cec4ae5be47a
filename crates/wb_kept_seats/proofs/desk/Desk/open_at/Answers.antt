use Rattle.std.proofs.Common.{sym, subst, []}
use Rattle.wb_keep.specs.declared.keep.LineLog.{LineLog}
use Rattle.wb_kept_seats.specs.Files.{HasTurns}
use Rattle.wb_kept_seats.proofs.Files.{has_opened}
use Rattle.wb_kept_seats.proofs.desk.Desk.open_at.Goals as goal

pub new-keeper-requires : goal.new-keeper-requires
new-keeper-requires g c =
    let has = has_opened g.D.Device.seen g.D.Device.may_leave g.D.Device.moment g.D.Device.left_since g.L.KeptOpening.lines g.L.KeptOpening.begun g.met.D.Device.only_now
    c.args.kept.log c.requires.kept.settled c.requires.lines c.requires.begun in (
      subst (λ (x : LineLog g.row.D.Denot). HasTurns g.D.Device.seen g.D.Device.may_leave g.D.Device.moment g.D.Device.left_since g.L.KeptOpening.lines g.L.KeptOpening.begun x [])
          (sym c.new.ensures) has,
      c.in-Ok.ensures.front.0,
      c.in-Ok.ensures.front.1,
      c.in-Ok.ensures.front.2,
    )
