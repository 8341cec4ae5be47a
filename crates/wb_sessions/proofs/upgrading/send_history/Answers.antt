use Rattle.std.proofs.Common.{◌++◌, List, ℕ, OnErr, OnOk, codes, subst}
use Rattle.std.specs.Io.KnownBytes.{Appends}
use Rattle.std.proofs.KnownBytes.{Appends-trans}
use Rattle.wb_sessions.specs.Upgrading.{AppendsFront}
use Rattle.wb_sessions.proofs.Fronts.{front_before, front_behind, on_err, part_behind, regroup, sent_behind}
use Rattle.wb_sessions.proofs.upgrading.send_history.Goals as goal

abbrev heading : List ℕ
heading = codes "chapel-workbook 2\n"

abbrev count : List ℕ
count = codes "history 1\n"

abbrev last : List ℕ
last = codes "end\n"

pub returns-in_err-send_two-clause-part : goal.returns-in_err-send_two-clause-part
returns-in_err-send_two-clause-part g c =
    let objects = c.args.objects.now in
    let line = c.args.line.now in
    let before = g.W.Sink.contents c.args.writer.now in
    let after = g.W.Sink.contents c.send_two.new.writer in
    let front = subst (λ bytes. AppendsFront before after (heading ++ bytes)) c.as_bytes.ensures.value c.in_err-send_two.ensures.part in
    on_err c.from_residual.result
    (subst (AppendsFront before after) (regroup heading objects count line last)
    (front_before _ _ ((heading ++ objects) ++ (count ++ line)) last (front_before _ _ (heading ++ objects) (count ++ line) front)))

pub returns-in_err-send_two-2-clause-part : goal.returns-in_err-send_two-2-clause-part
returns-in_err-send_two-2-clause-part g c =
    let objects = c.args.objects.now in
    let line = c.args.line.now in
    let before = g.W.Sink.contents c.args.writer.now in
    let after = g.W.Sink.contents c.send_two-2.new.writer in
    let above = subst (λ bytes. Appends before (g.W.Sink.contents c.send_two.new.writer) (heading ++ bytes)) c.as_bytes.ensures.value
    c.in_ok-send_two.ensures.sent in
    on_err c.from_residual-in_err-send_two-2.result
    (subst (AppendsFront before after) (regroup heading objects count line last)
    (front_before _ _ ((heading ++ objects) ++ (count ++ line)) last
    (front_behind before _ after (heading ++ objects) (count ++ line) above c.in_err-send_two-2.ensures.part)))

pub returns-clause-sent : goal.returns-clause-sent
returns-clause-sent g c =
    let objects = c.args.objects.now in
    let line = c.args.line.now in
    let before = g.W.Sink.contents c.args.writer.now in
    let above = subst (λ bytes. Appends before (g.W.Sink.contents c.send_two.new.writer) (heading ++ bytes)) c.as_bytes.ensures.value
    c.in_ok-send_two.ensures.sent in
    let so_far = Appends-trans before _ _ (heading ++ objects) (count ++ line) above c.in_ok-send_two-2.ensures.sent in
    subst (λ bytes. OnOk c.send.result (Appends before (g.W.Sink.contents c.send.new.writer) bytes)) (regroup heading objects count line last)
    (sent_behind c.send.result before _ _ ((heading ++ objects) ++ (count ++ line)) last so_far c.send.ensures.sent)

pub returns-clause-part : goal.returns-clause-part
returns-clause-part g c =
    let objects = c.args.objects.now in
    let line = c.args.line.now in
    let before = g.W.Sink.contents c.args.writer.now in
    let above = subst (λ bytes. Appends before (g.W.Sink.contents c.send_two.new.writer) (heading ++ bytes)) c.as_bytes.ensures.value
    c.in_ok-send_two.ensures.sent in
    let so_far = Appends-trans before _ _ (heading ++ objects) (count ++ line) above c.in_ok-send_two-2.ensures.sent in
    subst (λ bytes. OnErr c.send.result (AppendsFront before (g.W.Sink.contents c.send.new.writer) bytes)) (regroup heading objects count line last)
    (part_behind c.send.result before _ _ ((heading ++ objects) ++ (count ++ line)) last so_far c.send.ensures.part)
