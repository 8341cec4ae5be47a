use Rattle.std.proofs.Common.{◌∙◌, ap, ◌++◌, sym}
use Rattle.wb_kept_group.proofs.Groups.Left.{left_more}
use Rattle.wb_kept_group.proofs.group.keeper.Keeper.keep_all.Goals as goal

pub returns-then-not-is_open-clause-left : goal.returns-then-not-is_open-clause-left
returns-then-not-is_open-clause-left g c =
    let taken = c.take-batch.ensures in
    left_more g.T.Store.has g.T.Store.leaves c.self.inside.front c.take-batch.result.turns.items (g.W.Desk.made c.args.desk.now) c.self.inside.store c.self.inside.is_open
    c.if-not-is_open.true c.self.invariant.0 (taken.turns ∙ ap (λ l. l ++ c.take-batch.result.turns.items) (sym taken.before ∙ sym c.agrees.ensures))
