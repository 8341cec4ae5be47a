use Rattle.std.proofs.Common.{rules}
use Rattle.wb_requests.specs.Requests.{request}
use Rattle.wb_requests.specs.Wire.Proper.{IsProperRequest}
use Rattle.wb_requests.proofs.OnTheWire.ReadProper.{read_proper}
use Rattle.wb_keeping.proofs.Added.{adds_none, answered_read, refusal_read}
use Rattle.wb_keeping.proofs.answering.reply_to.Goals as goal

pub answer_read-requires : goal.answer_read-requires
answer_read-requires g c =
    let proper : IsProperRequest c.in-Ok.request = read_proper c.args.line.now c.in-Ok.request c.in-Ok.ensures.ok in
    search rules

pub returns-in-Err : goal.returns-in-Err
returns-in-Err g c = (refusal_read c.args.history.now (request c.args.line.now) c.in-Err.why c.in-Err.ensures.err, adds_none c.args.changes.now)

pub returns-in-Ok : goal.returns-in-Ok
returns-in-Ok g c =
    answered_read c.args.history.now c.answer_read.new.history c.in-Ok.request (request c.args.line.now) c.answer_read.result c.args.changes.now
    c.answer_read.new.changes c.in-Ok.ensures.ok c.answer_read.ensures
