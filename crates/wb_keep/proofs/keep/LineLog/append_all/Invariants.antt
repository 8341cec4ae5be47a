use Rattle.std.proofs.Common.{◌≡◌, ◌≤◌, ◌++◌, take}
use Rattle.wb_keep.specs.Disk.Device.{LeavesOnly}
use Rattle.wb_keep.specs.Lines.{recovered}
use Rattle.wb_keep.specs.Keep.{IsSettled}
use Rattle.wb_keep.specs.Run.{lines_in, HasSome}
use Rattle.wb_keep.proofs.keep.LineLog.append_all.Given as goal

abbrev pub invariant-loop-batch : goal.invariant-loop-batch
invariant-loop-batch g l =
    let D = g.D.Device in
    let old = recovered (D.seen l.fn.self.device) in
    record {
      faults : D.faults l.fn.self.device ≤ D.faults l.self.device;
      settled : IsSettled D.seen D.may_leave l.self;
      lines : recovered (D.seen l.self.device) ≡ old ++ lines_in (take l.batch-index l.batches);
      moments : LeavesOnly D.moment D.left_since l.fn.self.device l.self.device (HasSome old l.batches);
    }
