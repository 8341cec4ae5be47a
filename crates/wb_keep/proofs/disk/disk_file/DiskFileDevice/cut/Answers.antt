use Rattle.std.proofs.Common.{subst}
use Rattle.wb_keep.specs.Disk.Calls.{MayLeave}
use Rattle.wb_keep.proofs.Disks.Cuts.{cut_follows}
use Rattle.wb_keep.proofs.disk.disk_file.DiskFileDevice.cut.Goals as goal

pub returns-in-Err-clause-crash : goal.returns-in-Err-clause-crash
returns-in-Err-clause-crash c = λ f now. cut_follows c.args.len c.is_ok.result c.args.self.now.calls c.requires f (subst (λ calls. MayLeave calls f) c.cut.ensures now)

pub returns-clause-crash : goal.returns-clause-crash
returns-clause-crash c = λ f now. cut_follows c.args.len c.is_ok.result c.args.self.now.calls c.requires f (subst (λ calls. MayLeave calls f) c.cut.ensures now)
