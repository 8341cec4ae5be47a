use Rattle.std.proofs.Common.{sym, ap, ◌∙◌}
use Rattle.std.specs.List.{list_any}
use Rattle.wb_cells.specs.Runs.{in_first}
use Rattle.wb_footprints.specs.Places.{own}
use Rattle.wb_footprints.specs.Footprints.{touched_by}
use Rattle.wb_footprints.proofs.Meeting.{least_like}
use Rattle.wb_footprints.proofs.ReadPlaces.{or_false}
use Rattle.wb_footprints.proofs.foot_index.FootIndex.touched_first.Goals as goal

pub returns-in-Some : goal.returns-in-Some
returns-in-Some c = λ footprints h.
    least_like (λ n. touched_by (footprints n) (own c.as_cell.result.now))
    (λ n. list_any (λ x. touched_by (footprints n) (own x.cell)) (in_first c.args.first.now)) c.args.after c.touched_at.result
    (λ n. ap (λ o. list_any (λ x. touched_by (footprints n) (own x.cell)) (in_first o)) c.in-Some.is ∙
    or_false (touched_by (footprints n) (own c.in-Some.x.cell)) ∙ ap (λ x. touched_by (footprints n) (own x)) (sym c.as_cell.ensures))
    (c.touched_at.ensures footprints h)

pub returns-in-None : goal.returns-in-None
returns-in-None c = λ footprints h n up. ap (λ o. list_any (λ x. touched_by (footprints n) (own x.cell)) (in_first o)) c.in-None.is
