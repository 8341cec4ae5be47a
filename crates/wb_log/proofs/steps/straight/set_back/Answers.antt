use Rattle.std.proofs.Common.{sym, ap, ◌∙◌}
use Rattle.wb_log.specs.Kept.{kept_in}
use Rattle.wb_log.specs.Records.{shown}
use Rattle.wb_log.proofs.steps.straight.set_back.Goals as goal

pub returns-clause-taken : goal.returns-clause-taken
returns-clause-taken c = λ e count footprints h is.
    c.set_element_back.ensures.taken e count footprints h (is ∙ ap kept_in (sym c.entry.view_is ∙ ap shown c.in-Set.is))
