use Rattle.std.proofs.lemmas.Result.{on_ok_weaker, on_err_weaker}
use Rattle.wb_footprints.specs.Places.{place_marked}
use Rattle.wb_footprints.specs.Footprints.{at_cell}
use Rattle.wb_footprints.proofs.Setting.{on_err}
use Rattle.wb_footprints.proofs.InParts.{both_set, first_stays, second_stays}
use Rattle.wb_footprints.proofs.marks.cell_lists.mark_all.Goals as goal

pub returns-clause-ok : goal.returns-clause-ok
returns-clause-ok c =
    let old = place_marked c.args.marks.now in
    let mid = place_marked c.mark_first.new.marks in
    let new = place_marked c.mark_runs.new.marks in
    on_ok_weaker c.mark_runs.result
    (λ h. both_set (λ x. at_cell c.args.marking x.cell) c.args.number _ _ c.args.cells.now c.parts-first.ensures old mid new
    c.in_ok-mark_first.ensures.ok h)
    c.mark_runs.ensures.ok

pub returns-clause-err : goal.returns-clause-err
returns-clause-err c =
    let old = place_marked c.args.marks.now in
    let mid = place_marked c.mark_first.new.marks in
    let new = place_marked c.mark_runs.new.marks in
    on_err_weaker c.mark_runs.result
    (λ h. second_stays (λ x. at_cell c.args.marking x.cell) c.args.number _ _ c.args.cells.now c.parts-first.ensures old mid new
    c.in_ok-mark_first.ensures.ok h)
    c.mark_runs.ensures.err

pub returns-in_err-mark_first-clause-err : goal.returns-in_err-mark_first-clause-err
returns-in_err-mark_first-clause-err c =
    on_err c.from_residual.result (first_stays (λ x. at_cell c.args.marking x.cell) c.args.number _ _ c.args.cells.now c.parts-first.ensures
    (place_marked c.args.marks.now) (place_marked c.mark_first.new.marks) c.in_err-mark_first.ensures.err)
