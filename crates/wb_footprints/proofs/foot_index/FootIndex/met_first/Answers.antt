use Rattle.std.proofs.Common.{sym, ap, ◌∙◌}
use Rattle.wb_cells.specs.Runs.{in_first}
use Rattle.wb_footprints.specs.Footprints.{any_met, met_by}
use Rattle.wb_footprints.proofs.Meeting.{least_like}
use Rattle.wb_footprints.proofs.ReadPlaces.{or_false}
use Rattle.wb_footprints.proofs.foot_index.FootIndex.met_first.Goals as goal

pub returns-in-Some-clause-least : goal.returns-in-Some-clause-least
returns-in-Some-clause-least c = λ footprints h.
    least_like (λ n. met_by (footprints n) c.as_cell.result.now) (λ n. any_met (footprints n) (in_first c.args.first.now)) c.args.after c.met_after.result
    (λ n. ap (λ o. any_met (footprints n) (in_first o)) c.in-Some.is ∙ or_false (met_by (footprints n) c.in-Some.x.cell) ∙
    ap (met_by (footprints n)) (sym c.as_cell.ensures))
    (c.met_after.ensures.least footprints h)

pub returns-in-None-clause-least : goal.returns-in-None-clause-least
returns-in-None-clause-least c = λ footprints h n up. ap (λ o. any_met (footprints n) (in_first o)) c.in-None.is
