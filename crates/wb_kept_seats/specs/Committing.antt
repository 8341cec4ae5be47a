-- Why the changes of a turn are not kept.
use Rattle.wb_kept_group.specs.declared.group.keeper.KeepErr.{KeepErr}
use Rattle.wb_kept_group.specs.declared.group.keeper.KeepErr.TheVariants as keeping
use Rattle.wb_keep.specs.declared.keep.AppendErr.{AppendErr}
use Rattle.wb_keep.specs.declared.keep.AppendErr.TheVariants as appending
use Rattle.wb_kept_seats.specs.declared.commit.CommitErr.{CommitErr}
use Rattle.wb_kept_seats.specs.declared.commit.CommitErr.TheVariants.{NoMemory, DiskFault, Closed}

-- no room in the file counts as no memory
abbrev pub commit_err : KeepErr AppendErr → CommitErr
commit_err keeping.Closed = Closed
commit_err (keeping.Failed appending.Failed) = DiskFault
commit_err (keeping.Failed appending.Memory) = NoMemory
commit_err (keeping.Failed appending.Full) = NoMemory
