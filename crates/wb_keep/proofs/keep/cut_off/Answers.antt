use Rattle.wb_keep.specs.Disk.Device.{Cut}
use Rattle.wb_keep.proofs.Steps.{cut_none, one_call, and_sync}
use Rattle.wb_keep.proofs.keep.cut_off.Goals as goal

pub returns-in_err-cut-clause-any_moment : goal.returns-in_err-cut-clause-any_moment
returns-in_err-cut-clause-any_moment g c =
    let D = g.D.Device in
    let d0 = c.args.device.now in
    one_call D.seen D.moment D.left_since D.may_leave (Cut c.args.len) d0 c.cut.new.self (g.met.D.Device.only_now d0) c.requires.durable
    (cut_none c.args.len (D.seen d0) c.requires.within) c.cut.ensures.crash c.cut.ensures.time

pub returns-clause-any_moment : goal.returns-clause-any_moment
returns-clause-any_moment g c =
    let D = g.D.Device in
    let d0 = c.args.device.now in
    and_sync D.seen D.moment D.left_since D.may_leave (Cut c.args.len) d0 c.cut.new.self (g.met.D.Device.only_now d0) c.requires.durable
    (cut_none c.args.len (D.seen d0) c.requires.within) c.cut.ensures.crash c.cut.ensures.time c.sync.new.self c.sync.ensures.time c.sync.ensures.crash
