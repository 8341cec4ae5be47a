use Rattle.std.proofs.Common.{subst}
use Rattle.wb_machine.specs.Machine.{Step}
use Rattle.wb_machine.specs.declared.replies.reply.Reply.{Reply}
use Rattle.wb_keeping.proofs.Regrant.{refused_true, refused_false}
use Rattle.wb_keeping.proofs.making.make_request.Goals as goal

pub returns-in-Refused : goal.returns-in-Refused
returns-in-Refused g c =
    let step = subst (λ (r : Reply). Step c.args.history.now c.args.request r c.step-reply.new.history) c.in-Refused.is c.step-reply.ensures in
    record {
      granted = refused_true c.refuse.result c.args.history.now c.args.request _ c.step-reply.new.history c.refuse.ensures;
      refused = refused_false c.refuse.result c.args.history.now c.args.request _ c.step-reply.new.history step c.refuse.ensures;
    }
