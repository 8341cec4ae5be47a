use Rattle.wb_keep.specs.Disk.Device.{Torn}
use Rattle.wb_keep.proofs.Disks.Writes.{torn_none}
use Rattle.wb_keep.proofs.Steps.{one_call, and_sync}
use Rattle.wb_keep.proofs.keep.put.Goals as goal

pub returns-in_err-write_at-clause-any_moment : goal.returns-in_err-write_at-clause-any_moment
returns-in_err-write_at-clause-any_moment g c =
    let D = g.D.Device in
    let d0 = c.args.device.now in
    let bytes = c.args.bytes.now in
    one_call D.seen D.moment D.left_since D.may_leave (Torn c.args.at bytes) d0 c.write_at.new.self (g.met.D.Device.only_now d0) c.requires.durable
    (torn_none c.args.at bytes (D.seen d0)) c.write_at.ensures.crash c.write_at.ensures.time

pub returns-clause-any_moment : goal.returns-clause-any_moment
returns-clause-any_moment g c =
    let D = g.D.Device in
    let d0 = c.args.device.now in
    let bytes = c.args.bytes.now in
    and_sync D.seen D.moment D.left_since D.may_leave (Torn c.args.at bytes) d0 c.write_at.new.self (g.met.D.Device.only_now d0) c.requires.durable
    (torn_none c.args.at bytes (D.seen d0)) c.write_at.ensures.crash c.write_at.ensures.time c.sync.new.self c.sync.ensures.time c.sync.ensures.crash
