use Rattle.std.proofs.Common.{IfOk, subst}
use Rattle.wb_log.specs.Cascades.{CascadeReply, OthersStay, places}
use Rattle.wb_log.specs.Past.{meant}
use Rattle.wb_history.proofs.Missing.{none_of_number}
use Rattle.wb_history.proofs.history.History.cascade.Goals as goal

pub returns-in-None-clause-why : goal.returns-in-None-clause-why
returns-in-None-clause-why g c =
    let es = c.args.self.now.entries in
    none_of_number (CascadeReply (meant es)) es c.args.number (λ k none. none) c.in-None.ensures.none

pub returns-in-Some-clause-others : goal.returns-in-Some-clause-others
returns-in-Some-clause-others g c =
    let fs = c.cascade_at.new.self.entries in
    subst (λ p. IfOk c.cascade_at.result (λ r. OthersStay (meant p.entries) (places r.0.items) (meant fs))) c.self.view_is c.cascade_at.ensures.others
