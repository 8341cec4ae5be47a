use Rattle.wb_log.proofs.Appended.{keeps_undone}
use Rattle.wb_log.proofs.log.Log.append_undone.Goals as goal

pub invariant_of-self-2 : goal.invariant_of-self-2
invariant_of-self-2 c =
    rw (c.in_ok-push.ensures.items, c.in_ok-entry.ensures)
    (keeps_undone c.self.inside.book.cells c.self.inside.index c.self.inside.entries.items c.args.edit c.self.invariant c.validity.ensures)
