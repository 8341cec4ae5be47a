use Rattle.std.proofs.Common.{option_map, sym, ap, ◌∙◌}
use Rattle.wb_log.specs.Records.{lent_kept}
use Rattle.wb_log.proofs.steps.undo.take_back_listed.Goals as goal

pub returns-clause-taken : goal.returns-clause-taken
returns-clause-taken g c = λ count footprints h is.
    c.left_force.ensures count footprints h (is ∙ sym c.kept.ensures ∙ ap (option_map lent_kept) c.in-Some.is)
