use Rattle.std.proofs.Common.{true, subst}
use Rattle.wb_keep.specs.Disk.Calls.{MayLeave}
use Rattle.wb_keep.proofs.Disks.Writes.{write_follows}
use Rattle.wb_keep.proofs.disk.memory_file.MemoryFileDevice.write_at.Goals as goal

pub returns-clause-crash : goal.returns-clause-crash
returns-clause-crash c = λ f now. write_follows c.args.at c.args.bytes.now true c.args.self.now.calls c.requires f (subst (λ calls. MayLeave calls f) c.write-2.ensures now)
