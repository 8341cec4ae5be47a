use Rattle.wb_log.specs.Cascades.{DependentsReply}
use Rattle.wb_log.specs.Past.{meant}
use Rattle.wb_history.proofs.Missing.{none_of_number}
use Rattle.wb_history.proofs.history.History.dependents.Goals as goal

pub returns-in-None-clause-why : goal.returns-in-None-clause-why
returns-in-None-clause-why c =
    let es = c.args.self.now.entries in
    none_of_number (DependentsReply (meant es)) es c.args.number (λ k none. none) c.in-None.ensures.none
