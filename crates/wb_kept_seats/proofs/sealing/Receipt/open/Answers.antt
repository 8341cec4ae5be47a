use Rattle.std.proofs.Common.{rules, ◌<◌, length}
use mathlib.Core.List.{IsPrefix}
use Rattle.wb_kept_seats.proofs.Files.{kept_until}
use Rattle.wb_kept_seats.proofs.sealing.Receipt.open.Goals as goal

pub returns-clause-kept : goal.returns-clause-kept
returns-clause-kept g c =
    let begins : IsPrefix c.args.sealed.made c.self.inside.front = search rules in
    let more : length c.args.sealed.made < length c.self.inside.front = search rules in
    kept_until g.D.Device.seen g.D.Device.may_leave g.D.Device.moment g.D.Device.left_since g.L.KeptOpening.lines g.L.KeptOpening.begun
    c.args.sealed.made c.self.inside.front begins more c.self.invariant
