use Rattle.std.proofs.Common.{take, IfOk, subst}
use Rattle.wb_log.specs.Cascades.{OthersStay, places}
use Rattle.wb_log.specs.Past.{meant}
use Rattle.wb_history.proofs.history.History.cascade_listed.Goals as goal

pub returns-clause-others : goal.returns-clause-others
returns-clause-others g c =
    let fs = c.undo_listed.new.self.entries in
    subst (λ p. IfOk c.undo_listed.result (λ r. OthersStay (meant p.entries) (places (take r.0 c.args.listed.now)) (meant fs))) c.self.view_is
    c.undo_listed.ensures.others
