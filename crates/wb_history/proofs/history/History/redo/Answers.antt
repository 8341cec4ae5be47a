use Rattle.std.proofs.Common.{subst}
use Rattle.wb_log.specs.Past.{meant}
use Rattle.wb_log.specs.Replies.{RedoReply}
use Rattle.wb_history.proofs.Missing.{none_by_number, by_place}
use Rattle.wb_history.proofs.history.History.redo.Goals as goal

pub returns-in-None-clause-reply : goal.returns-in-None-clause-reply
returns-in-None-clause-reply g c =
    let es = c.args.self.now.entries in
    none_by_number (RedoReply (meant es)) es c.args.number (λ k none. none) c.in-None.ensures.none

pub returns-in-Some-clause-reply : goal.returns-in-Some-clause-reply
returns-in-Some-clause-reply g c =
    let (some, is, low) = c.in-Some.ensures.there in
    by_place (RedoReply (meant c.args.self.now.entries)) c.args.number c.in-Some.at c.redo_at.result some is
    (subst (λ p. RedoReply (meant p.entries) c.in-Some.at c.redo_at.result) c.self.view_is c.redo_at.ensures.reply)
