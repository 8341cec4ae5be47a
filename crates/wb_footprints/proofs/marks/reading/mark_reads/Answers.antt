use Rattle.std.proofs.Common.{refl}
use Rattle.std.proofs.lemmas.Result.{on_ok_weaker, on_err_weaker}
use Rattle.wb_footprints.specs.Places.{place_marked, place_of, is_same_place}
use Rattle.wb_footprints.proofs.Setting.{on_err}
use Rattle.wb_footprints.proofs.InParts.{both_set, first_stays, second_stays}
use Rattle.wb_footprints.proofs.marks.reading.mark_reads.Goals as goal

pub returns-clause-ok : goal.returns-clause-ok
returns-clause-ok c =
    let old = place_marked c.args.marks.now in
    let mid = place_marked c.read_each.new.marks in
    let new = place_marked c.read_runs.new.marks in
    on_ok_weaker c.read_runs.result
    (λ h. both_set (λ p. is_same_place (place_of p)) c.args.number _ _ _ refl old mid new c.in_ok-read_each.ensures.ok h) c.read_runs.ensures.ok

pub returns-clause-err : goal.returns-clause-err
returns-clause-err c =
    let old = place_marked c.args.marks.now in
    let mid = place_marked c.read_each.new.marks in
    let new = place_marked c.read_runs.new.marks in
    on_err_weaker c.read_runs.result
    (λ h. second_stays (λ p. is_same_place (place_of p)) c.args.number _ _ _ refl old mid new c.in_ok-read_each.ensures.ok h) c.read_runs.ensures.err

pub returns-in_err-read_each-clause-err : goal.returns-in_err-read_each-clause-err
returns-in_err-read_each-clause-err c =
    on_err c.from_residual.result (first_stays (λ p. is_same_place (place_of p)) c.args.number _ _ _ refl
    (place_marked c.args.marks.now) (place_marked c.read_each.new.marks) c.in_err-read_each.ensures.err)
