use Rattle.std.proofs.Common.{◌≡◌, ◌+◌, ◌++◌, take, drop, ap, sym, ◌∙◌, arith}
use Rattle.wb_cells.specs.declared.changes.run.ChangeRun.{ChangeRun}
use Rattle.wb_cells.specs.Runs.{changes_in, all_changes}
use Rattle.wb_footprints.proofs.InRuns.{all_more, all_parts}
use Rattle.wb_footprints.specs.Places.{place_marked}
use Rattle.wb_footprints.specs.Footprints.{at_cell}
use Rattle.wb_footprints.proofs.Setting.{on_err}
use Rattle.wb_footprints.proofs.InParts.{both_set, first_stays, second_stays}
use Rattle.wb_footprints.proofs.marks.cell_lists.mark_runs.Goals as goal

pub loop-run-preserved : goal.loop-run-preserved
loop-run-preserved c =
    let i = c.loop-run.run-index in
    let rs = c.args.runs.now in
    let r = c.run-item.result in
    let more : all_changes (take (i + 1) rs) ≡ all_changes (take i rs) ++ changes_in r.form =
    all_more (λ (x : ChangeRun). changes_in x.form) rs i r (omega arith) ∙
    ap (λ (x : ChangeRun). all_changes (take i rs) ++ changes_in x.form) (sym c.run-item.is) in
    both_set (λ x. at_cell c.args.marking x.cell) c.args.number (all_changes (take i rs)) (changes_in r.form) (all_changes (take (i + 1) rs)) more
    (place_marked c.args.marks.now) (place_marked c.loop-run.marks) (place_marked c.mark_run.new.marks) c.loop-run.invariant c.in_ok-mark_run.ensures.ok

pub returns-in_err-mark_run-clause-err : goal.returns-in_err-mark_run-clause-err
returns-in_err-mark_run-clause-err c =
    let i = c.loop-run.run-index in
    let rs = c.args.runs.now in
    let r = c.run-item.result in
    let more : all_changes (take (i + 1) rs) ≡ all_changes (take i rs) ++ changes_in r.form =
    all_more (λ (x : ChangeRun). changes_in x.form) rs i r (omega arith) ∙
    ap (λ (x : ChangeRun). all_changes (take i rs) ++ changes_in x.form) (sym c.run-item.is) in
    let old = place_marked c.args.marks.now in
    let new = place_marked c.mark_run.new.marks in
    let front = second_stays (λ x. at_cell c.args.marking x.cell) c.args.number (all_changes (take i rs)) (changes_in r.form)
    (all_changes (take (i + 1) rs)) more
    old (place_marked c.loop-run.marks) new c.loop-run.invariant c.in_err-mark_run.ensures.err in
    on_err c.from_residual.result (first_stays (λ x. at_cell c.args.marking x.cell) c.args.number (all_changes (take (i + 1) rs))
    (all_changes (drop (i + 1) rs))
    (all_changes rs) (all_parts (λ (x : ChangeRun). changes_in x.form) rs (i + 1)) old new front)
