use Rattle.std.proofs.Common.{◌<◌, [], ◌∷◌, ◌++◌, take, length, append_assoc, sym, ap, ◌∙◌, arith}
use Rattle.selective_undo.specs.Changes.{inverse, sets}
use Rattle.wb_cells.specs.Cells.{Changes, state_of}
use Rattle.wb_cells.specs.Runs.{changes_in}
use Rattle.wb_book.proofs.StoredRuns.{before_one_more}
use Rattle.wb_book.proofs.storing.add_each_before.Goals as goal

pub loop-at-preserved : goal.loop-at-preserved
loop-at-preserved c =
    let xs = changes_in c.args.run.now.form in
    let k = c.loop-at.at in
    let x = c.change.result in
    let s = state_of c.args.cells.now in
    let low : k < length xs = omega (arith, c.loop-at-test.true, c.len-at-end.ensures) in
    c.in_ok-add_before.ensures
    ∙ ap (λ (ys : Changes). ys ++ inverse (sets (x ∷ [])) s) c.loop-at.invariant
    ∙ append_assoc c.args.before.now (inverse (sets (take k xs)) s) (inverse (sets (x ∷ [])) s)
    ∙ ap (λ (ys : Changes). c.args.before.now ++ ys) (sym (before_one_more xs k x s low c.change.ensures))
