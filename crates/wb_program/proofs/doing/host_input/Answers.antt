use Rattle.std.proofs.Common.{[], inl, inr, subst, true}
use Rattle.std.proofs.KnownBytes.{Appends-trans}
use Rattle.std.specs.Io.KnownBytes.{Appends}
use Rattle.wb_program.proofs.Finishing.{no_opening_of_0}
use Rattle.wb_program.proofs.Telling.{host_of_1}
use Rattle.wb_program.proofs.doing.host_input.Goals as goal

pub returns-in-Ok-clause-hosts : goal.returns-in-Ok-clause-hosts
returns-in-Ok-clause-hosts g c =
    let opens = c.in-Ok.ensures.opens in
    let part = opens.2 in
    let hosts = c.host_history.ensures.hosts in
    let contents = g.W.Sink.contents in
    let nothing = subst (λ t. Appends (contents c.args.writer.now) (contents c.history_from.new.writer) t) part.2.1 part.1 in
    (opens.0, opens.1, (hosts.0, Appends-trans _ _ _ [] hosts.0 nothing hosts.1, inl (c.in-Ok.history, part.2.0, hosts.2)))

pub returns-in-Err-clause-hosts : goal.returns-in-Err-clause-hosts
returns-in-Err-clause-hosts g c = let opens = c.in-Err.ensures.opens in let part = opens.2 in (opens.0, opens.1, (part.0, part.1, inr part.2))

pub returns-in-Ok-clause-done : goal.returns-in-Ok-clause-done
returns-in-Ok-clause-done g c h = (c.in-Ok.ensures.ended, c.host_history.ensures.flushed h)

pub returns-in-Ok-clause-failed : goal.returns-in-Ok-clause-failed
returns-in-Ok-clause-failed g c h =
    let opens = c.in-Ok.ensures.opens in
    inr (opens.0, c.in-Ok.history, opens.1, opens.2.2.0, c.host_history.ensures.failed h)

pub returns-in-Err-clause-done : goal.returns-in-Err-clause-done
returns-in-Err-clause-done g c h =
    let opens = c.in-Err.ensures.opens in absurd (no_opening_of_0 _ opens.0 opens.2.0 h opens.2.2)

pub returns-in-Err-clause-failed : goal.returns-in-Err-clause-failed
returns-in-Err-clause-failed g c h = inl (c.in-Err.ensures.failed h)

pub returns-in-Ok-clause-why : goal.returns-in-Ok-clause-why
returns-in-Ok-clause-why g c one =
    let hosts = c.host_history.ensures.hosts in
    host_of_1 g.I.Source g.O.Sink g.N.Accepts _ true c.in-Ok.history _ c.host_history.result hosts.0 one hosts.2

pub returns-in-Err-clause-why : goal.returns-in-Err-clause-why
returns-in-Err-clause-why g c one = c.in-Err.ensures.why one
