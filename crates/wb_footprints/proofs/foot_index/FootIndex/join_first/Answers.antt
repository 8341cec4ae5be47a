use Rattle.std.proofs.Common.{sym, ap, ◌∙◌}
use Rattle.std.proofs.lemmas.Result.{on_ok_weaker}
use Rattle.std.specs.List.{list_any}
use Rattle.wb_cells.specs.Runs.{in_first}
use Rattle.wb_footprints.specs.Footprints.{marked_met}
use Rattle.wb_footprints.proofs.Joining.{none_joined, joined_like}
use Rattle.wb_footprints.proofs.ReadPlaces.{or_false}
use Rattle.wb_footprints.proofs.foot_index.FootIndex.join_first.Goals as goal

pub returns-in-Some-clause-joined : goal.returns-in-Some-clause-joined
returns-in-Some-clause-joined c =
    let m = c.args.self.now in
    on_ok_weaker c.join_once.result
    (λ h. joined_like c.args.waiting.now c.join_once.new.waiting (marked_met m c.as_cell.result.now)
    (λ n. list_any (λ x. marked_met m x.cell n) (in_first c.args.first.now)) c.args.after
    (λ n. ap (λ o. list_any (λ x. marked_met m x.cell n) (in_first o)) c.in-Some.is ∙ or_false (marked_met m c.in-Some.x.cell n) ∙
    ap (λ k. marked_met m k n) (sym c.as_cell.ensures)) h)
    c.join_once.ensures.joined

pub returns-in-None-clause-joined : goal.returns-in-None-clause-joined
returns-in-None-clause-joined c =
    let m = c.args.self.now in
    none_joined c.args.waiting.now (λ n. list_any (λ x. marked_met m x.cell n) (in_first c.args.first.now)) c.args.after
    (λ n up. ap (λ o. list_any (λ x. marked_met m x.cell n) (in_first o)) c.in-None.is)
