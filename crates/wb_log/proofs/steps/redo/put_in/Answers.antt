use Rattle.std.proofs.Common.{◌+◌, option_map, subst, sym, ap, ◌∙◌}
use Rattle.wb_footprints.specs.Footprints.{with_footprint}
use Rattle.wb_log.specs.Indexed.{Indexes}
use Rattle.wb_log.specs.Records.{lent_kept}
use Rattle.wb_log.proofs.steps.redo.put_in.Goals as goal

pub returns-in-Some-clause-put : goal.returns-in-Some-clause-put
returns-in-Some-clause-put g c = λ count footprints h none.
    let now = c.back_in_force.new.self in
    let n = c.args.at + 1 in
    subst (λ o. Indexes now count (with_footprint footprints n o)) (sym (ap (option_map lent_kept) c.in-Some.is) ∙ c.kept.ensures)
    (c.back_in_force.ensures count footprints h none)
