-- What an exit status says of the session before it.
use Rattle.std.proofs.Common.{◌≡◌, inl, inr, ℕ, List, Bool, true, Option}
use Rattle.std.specs.Io.KnownBytes.{IsAtEnd}
use Rattle.wb_lines.specs.Causes.{ReadsUntil, WritesUntil}
use Rattle.wb_lines.specs.declared.machine.SessionEnd.{SessionEnd}
use Rattle.wb_lines.specs.declared.machine.SessionEnd.TheVariants.{Done, ReadFault, WriteFault, TooManyReads, NoMemory}
use Rattle.wb_sessions.specs.Running.{status_of, HasFailed}

pub done_ends : (end : SessionEnd) (left : Option (List ℕ)) (read_failed : Bool) (before after : ℕ) (flushed write_failed : Bool)
    → ReadsUntil end left read_failed before after → WritesUntil end flushed write_failed → status_of end ≡ 0 → IsAtEnd left × (flushed ≡ true)
done_ends (Done n) left read_failed before after flushed write_failed r w e = (r, w)
done_ends (ReadFault n) left read_failed before after flushed write_failed r w e = absurd (cc)
done_ends (WriteFault n) left read_failed before after flushed write_failed r w e = absurd (cc)
done_ends (TooManyReads n) left read_failed before after flushed write_failed r w e = absurd (cc)
done_ends (NoMemory n) left read_failed before after flushed write_failed r w e = absurd (cc)

pub failed_ends : (end : SessionEnd) (left : Option (List ℕ)) (read_failed : Bool) (before after : ℕ) (flushed write_failed : Bool)
    → ReadsUntil end left read_failed before after → WritesUntil end flushed write_failed → status_of end ≡ 3
    → HasFailed read_failed before after write_failed
failed_ends (Done n) left read_failed before after flushed write_failed r w e = absurd (cc)
failed_ends (ReadFault n) left read_failed before after flushed write_failed r w e = inl r
failed_ends (WriteFault n) left read_failed before after flushed write_failed r w e = inr (inr w)
failed_ends (TooManyReads n) left read_failed before after flushed write_failed r w e = inr (inl r)
failed_ends (NoMemory n) left read_failed before after flushed write_failed r w e = absurd (cc)
