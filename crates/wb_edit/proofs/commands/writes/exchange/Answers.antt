use Rattle.wb_edit.proofs.Exchanges.{coming_is_new}
use Rattle.wb_edit.proofs.commands.writes.exchange.Goals as goal

pub put_listed-requires-clause-new : goal.put_listed-requires-clause-new
put_listed-requires-clause-new c = λ p i here.
    rw c.in_ok-become_listed.ensures.ok (coming_is_new c.args.row.now c.args.delta.now c.args.leaving.now c.args.coming.now c.requires.new c.requires.apart
    p i here)
