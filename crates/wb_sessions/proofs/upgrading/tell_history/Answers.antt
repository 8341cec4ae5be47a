use Rattle.std.proofs.Common.{◌∙◌, sym}
use Rattle.wb_sessions.specs.Upgrading.{text_by_lines}
use Rattle.wb_sessions.proofs.Fronts.{err_of, front_printed}
use Rattle.wb_statuses.proofs.Sent.{printed, printed_at_fault, sent_whole}
use Rattle.wb_sessions.proofs.upgrading.tell_history.Goals as goal

pub returns-then-is_err-clause-told : goal.returns-then-is_err-clause-told
returns-then-is_err-clause-told g c =
    front_printed _ _ (text_by_lines c.args.objects.now c.args.line.now) (err_of c.send_history.result (sym c.is_err.ensures.value ∙ c.if-is_err.true) c.send_history.ensures.part)

pub returns-then-is_err-2-clause-told : goal.returns-then-is_err-2-clause-told
returns-then-is_err-2-clause-told g c =
    let whole = text_by_lines c.args.objects.now c.args.line.now in
    (whole, sent_whole c.send_history.result _ _ _ whole c.send_history.ensures.sent (sym c.is_err.ensures.value ∙ c.if-is_err.false) c.flush.ensures.bytes, printed_at_fault whole)

pub returns-clause-told : goal.returns-clause-told
returns-clause-told g c =
    let whole = text_by_lines c.args.objects.now c.args.line.now in
    (whole, sent_whole c.send_history.result _ _ _ whole c.send_history.ensures.sent (sym c.is_err.ensures.value ∙ c.if-is_err.false) c.flush.ensures.bytes, printed whole)
