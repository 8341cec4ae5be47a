use Rattle.std.proofs.Common.{◌≡◌, ◌+◌, ◌++◌, take, drop, ap, sym, ◌∙◌, arith}
use Rattle.wb_cells.specs.Reads.{all_read, read_in}
use Rattle.wb_footprints.proofs.InRuns.{all_more, all_parts}
use Rattle.wb_footprints.specs.Places.{place_marked, place_of, is_same_place}
use Rattle.wb_footprints.proofs.Setting.{on_err}
use Rattle.wb_footprints.proofs.InParts.{both_set, first_stays, second_stays}
use Rattle.wb_footprints.proofs.marks.reading.read_runs.Goals as goal

pub loop-run-preserved : goal.loop-run-preserved
loop-run-preserved c =
    let i = c.loop-run.run-index in
    let rs = c.args.runs.now in
    let r = c.run-item.result in
    let more : all_read (take (i + 1) rs) ≡ all_read (take i rs) ++ read_in r = all_more read_in rs i r (omega arith) ∙
    ap (λ x. all_read (take i rs) ++ read_in x) (sym c.run-item.is) in
    both_set (λ p. is_same_place (place_of p)) c.args.number (all_read (take i rs)) (read_in r) (all_read (take (i + 1) rs)) more
    (place_marked c.args.marks.now) (place_marked c.loop-run.marks) (place_marked c.read_run.new.marks) c.loop-run.invariant c.in_ok-read_run.ensures.ok

pub returns-in_err-read_run-clause-err : goal.returns-in_err-read_run-clause-err
returns-in_err-read_run-clause-err c =
    let i = c.loop-run.run-index in
    let rs = c.args.runs.now in
    let r = c.run-item.result in
    let more : all_read (take (i + 1) rs) ≡ all_read (take i rs) ++ read_in r = all_more read_in rs i r (omega arith) ∙
    ap (λ x. all_read (take i rs) ++ read_in x) (sym c.run-item.is) in
    let old = place_marked c.args.marks.now in
    let new = place_marked c.read_run.new.marks in
    let front = second_stays (λ p. is_same_place (place_of p)) c.args.number (all_read (take i rs)) (read_in r) (all_read (take (i + 1) rs)) more
    old (place_marked c.loop-run.marks) new c.loop-run.invariant c.in_err-read_run.ensures.err in
    on_err c.from_residual.result (first_stays (λ p. is_same_place (place_of p)) c.args.number (all_read (take (i + 1) rs)) (all_read (drop (i + 1) rs))
    (all_read rs) (all_parts read_in rs (i + 1)) old new front)
