use Rattle.std.proofs.Common.{sym, subst, ◌∙◌}
use Rattle.std.specs.Io.KnownBytes.{Appends}
use Rattle.wb_statuses.proofs.Sent.{printed, printed_at_fault, sent_whole}
use Rattle.wb_statuses.proofs.telling.tell.Goals as goal

pub returns-then-is_err-2-clause-told : goal.returns-then-is_err-2-clause-told
returns-then-is_err-2-clause-told g c =
    let whole = c.args.whole.now in
    let contents = g.W.Sink.contents in
    let sent = sent_whole c.send.result _ _ _ c.as_bytes.result.now c.send.ensures.sent (sym c.is_err.ensures.value ∙ c.if-is_err.false) c.flush.ensures.bytes
    in
    (whole, subst (λ bs. Appends (contents c.args.writer.now) (contents c.flush.new.self) bs) c.as_bytes.ensures.value sent, printed_at_fault whole)

pub returns-clause-told : goal.returns-clause-told
returns-clause-told g c =
    let whole = c.args.whole.now in
    let contents = g.W.Sink.contents in
    let sent = sent_whole c.send.result _ _ _ c.as_bytes.result.now c.send.ensures.sent (sym c.is_err.ensures.value ∙ c.if-is_err.false) c.flush.ensures.bytes
    in
    (whole, subst (λ bs. Appends (contents c.args.writer.now) (contents c.flush.new.self) bs) c.as_bytes.ensures.value sent, printed whole)
