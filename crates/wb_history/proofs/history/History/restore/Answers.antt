use Rattle.std.proofs.Common.{rules}
use Rattle.wb_history.proofs.Restored.{stopped_reply}
use Rattle.wb_history.proofs.history.History.restore.Goals as goal

pub returns-in-Err : goal.returns-in-Err
returns-in-Err g c =
    stopped_reply c.args.edits.items c.next.new.self.rest.items c.loop-edit.history.entries c.in-Some.edit c.in-Some.in_force c.in-Err.why (search rules)
    c.in-Err.ensures.refused
