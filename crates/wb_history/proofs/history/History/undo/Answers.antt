use Rattle.wb_log.specs.Past.{meant}
use Rattle.wb_log.specs.Replies.{UndoReply}
use Rattle.wb_history.proofs.Missing.{none_by_number}
use Rattle.wb_history.proofs.history.History.undo.Goals as goal

pub returns-in-None-clause-reply : goal.returns-in-None-clause-reply
returns-in-None-clause-reply g c =
    let es = c.args.self.now.entries in
    none_by_number (UndoReply (meant es)) es c.args.number (λ k none. none) c.in-None.ensures.none
