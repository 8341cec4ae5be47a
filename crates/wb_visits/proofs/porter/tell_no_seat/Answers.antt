use Rattle.std.proofs.Common.{sym, subst, ◌∙◌}
use Rattle.std.specs.Io.KnownBytes.{Appends}
use Rattle.wb_visits.specs.NoSeat.{no_seat}
use Rattle.wb_visits.proofs.Told.{sent_whole, told_by, told_in_part}
use Rattle.wb_visits.proofs.porter.tell_no_seat.Goals as goal

pub returns : goal.returns
returns g c =
    let contents = g.O.Sink.contents in
    let sent = sent_whole c.send.result _ _ _ c.as_bytes.result.now c.send.ensures.sent (sym c.is_err.ensures.value ∙ c.if-is_err.false) c.flush.ensures.bytes
    in (
      no_seat,
      subst (λ bs. Appends (contents c.args.writer.now) (contents c.flush.new.self) bs) c.as_bytes.ensures.value sent,
      told_by c.flush.result _ _ c.flush.ensures.sent c.flush.ensures.cause,
    )

pub returns-then-is_err : goal.returns-then-is_err
returns-then-is_err g c = told_in_part c.send.result _ _ c.as_bytes.result.now _ _ c.send.ensures.part c.send.ensures.failed
    (sym c.is_err.ensures.value ∙ c.if-is_err.true) c.as_bytes.ensures.value
