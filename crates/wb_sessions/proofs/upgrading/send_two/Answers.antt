use Rattle.wb_sessions.proofs.Fronts.{front_before, front_of_part, on_err, part_behind}
use Rattle.wb_sessions.proofs.upgrading.send_two.Goals as goal

pub returns-in_err-send-clause-part : goal.returns-in_err-send-clause-part
returns-in_err-send-clause-part g c =
    on_err c.from_residual.result (front_before _ _ c.args.first.now c.args.second.now (front_of_part _ _ c.args.first.now c.in_err-send.ensures.part))

pub returns-clause-part : goal.returns-clause-part
returns-clause-part g c = part_behind c.send-2.result _ _ _ c.args.first.now c.args.second.now c.in_ok-send.ensures.sent c.send-2.ensures.part
