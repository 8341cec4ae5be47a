use Rattle.std.proofs.Common.{refl}
use Rattle.wb_lines.specs.Lines.{lines, whole_lines}
use Rattle.wb_kept.specs.declared.session.KeptEnd.TheVariants as ends
use Rattle.wb_kept.proofs.Ending.{ends_whole, ends_unsent, ends_short, ends_failed}
use Rattle.wb_kept.proofs.session.serve_kept.Goals as goal

pub returns-in-Ok-Done-clause-session : goal.returns-in-Ok-Done-clause-session
returns-in-Ok-Done-clause-session g c =
    let served = c.in-Ok-Done.ensures.serves in
    let went = rw c.in-Ok-Done.field-0-is at served.2.2 in
    ends_whole g.M.Machine.start g.M.Machine.grants g.M.Machine.answers g.M.Machine.leads g.D.Device.seen g.D.Device.may_leave g.D.Device.moment
    g.D.Device.left_since g.D.Device.faults c.args.kept.now c.serve.new.state _ _ _ _ served.0 served.2.0 c.requires.kept served.1 served.2.1
    (ends.Done c.in-Ok-Done.count) (lines served.0) c.in-Ok-Done.count went refl (went.all, went.given, went.kept.counted)

pub returns-in-Ok-ReadFault-clause-session : goal.returns-in-Ok-ReadFault-clause-session
returns-in-Ok-ReadFault-clause-session g c =
    let served = c.in-Ok-ReadFault.ensures.serves in
    let went = rw c.in-Ok-ReadFault.field-0-is at served.2.2 in
    ends_whole g.M.Machine.start g.M.Machine.grants g.M.Machine.answers g.M.Machine.leads g.D.Device.seen g.D.Device.may_leave g.D.Device.moment
    g.D.Device.left_since g.D.Device.faults c.args.kept.now c.serve.new.state _ _ _ _ served.0 served.2.0 c.requires.kept served.1 served.2.1
    (ends.ReadFault c.in-Ok-ReadFault.count) (whole_lines served.0) c.in-Ok-ReadFault.count went refl (went.all, went.given, went.kept.counted)

pub returns-in-Ok-TooManyReads-clause-session : goal.returns-in-Ok-TooManyReads-clause-session
returns-in-Ok-TooManyReads-clause-session g c =
    let served = c.in-Ok-TooManyReads.ensures.serves in
    let went = rw c.in-Ok-TooManyReads.field-0-is at served.2.2 in
    ends_whole g.M.Machine.start g.M.Machine.grants g.M.Machine.answers g.M.Machine.leads g.D.Device.seen g.D.Device.may_leave g.D.Device.moment
    g.D.Device.left_since g.D.Device.faults c.args.kept.now c.serve.new.state _ _ _ _ served.0 served.2.0 c.requires.kept served.1 served.2.1
    (ends.TooManyReads c.in-Ok-TooManyReads.count) (whole_lines served.0) c.in-Ok-TooManyReads.count went refl (went.all, went.given, went.kept.counted)

pub returns-in-Ok-WriteFault-clause-session : goal.returns-in-Ok-WriteFault-clause-session
returns-in-Ok-WriteFault-clause-session g c =
    let served = c.in-Ok-WriteFault.ensures.serves in
    ends_unsent g.M.Machine.start g.M.Machine.grants g.M.Machine.answers g.M.Machine.leads g.D.Device.seen g.D.Device.may_leave g.D.Device.moment
    g.D.Device.left_since g.D.Device.faults c.args.kept.now c.serve.new.state _ _ _ _ served.0 served.2.0 c.requires.kept served.1 served.2.1
    c.in-Ok-WriteFault.count (rw c.in-Ok-WriteFault.field-0-is at served.2.2)

pub returns-in-Ok-NoMemory-clause-session : goal.returns-in-Ok-NoMemory-clause-session
returns-in-Ok-NoMemory-clause-session g c =
    let served = c.in-Ok-NoMemory.ensures.serves in
    ends_short g.M.Machine.start g.M.Machine.grants g.M.Machine.answers g.M.Machine.leads g.D.Device.seen g.D.Device.may_leave g.D.Device.moment
    g.D.Device.left_since g.D.Device.faults c.args.kept.now c.serve.new.state _ _ _ _ served.0 served.2.0 c.requires.kept served.1 served.2.1
    c.in-Ok-NoMemory.count (rw c.in-Ok-NoMemory.field-0-is at served.2.2)

pub returns-in-Err-clause-session : goal.returns-in-Err-clause-session
returns-in-Err-clause-session g c =
    let served = c.in-Err.ensures.serves in
    ends_failed g.M.Machine.start g.M.Machine.grants g.M.Machine.answers g.M.Machine.leads g.D.Device.seen g.D.Device.may_leave g.D.Device.moment
    g.D.Device.left_since g.D.Device.faults c.args.kept.now c.serve.new.state _ _ _ _ served.0 served.2.0 c.requires.kept served.1 served.2.1
    c.in-Err.count _ served.2.2
