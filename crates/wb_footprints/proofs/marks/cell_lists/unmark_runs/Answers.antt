use Rattle.std.proofs.Common.{◌≡◌, ◌+◌, ◌++◌, take, ap, sym, ◌∙◌, arith}
use Rattle.wb_cells.specs.declared.changes.run.ChangeRun.{ChangeRun}
use Rattle.wb_cells.specs.Runs.{changes_in, all_changes}
use Rattle.wb_footprints.specs.Places.{place_marked}
use Rattle.wb_footprints.proofs.InRuns.{all_more}
use Rattle.wb_footprints.proofs.Rows.{joined_cleared}
use Rattle.wb_footprints.proofs.marks.cell_lists.unmark_runs.Goals as goal

pub loop-run-preserved : goal.loop-run-preserved
loop-run-preserved c =
    let i = c.loop-run.run-index in
    let rs = c.args.runs.now in
    let r = c.run-item.result in
    let more : all_changes (take (i + 1) rs) ≡ all_changes (take i rs) ++ changes_in r.form =
    all_more (λ (x : ChangeRun). changes_in x.form) rs i r (omega arith) ∙
    ap (λ (x : ChangeRun). all_changes (take i rs) ++ changes_in x.form) (sym c.run-item.is) in
    joined_cleared (place_marked c.args.marks.now) (place_marked c.loop-run.marks) (place_marked c.unmark_run.new.marks) c.args.number c.args.marking
    (all_changes (take i rs)) (changes_in r.form) (all_changes (take (i + 1) rs)) more c.loop-run.invariant c.unmark_run.ensures
