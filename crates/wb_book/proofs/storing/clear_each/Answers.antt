use Rattle.std.proofs.Common.{◌<◌, length, sym, ap, ◌∙◌, arith}
use Rattle.selective_undo.specs.Changes.{apply, clears}
use Rattle.wb_cells.specs.Cells.{Changes, state_of}
use Rattle.wb_cells.specs.Runs.{changes_in}
use Rattle.wb_book.proofs.StoredRuns.{clear_one_more}
use Rattle.wb_book.proofs.storing.clear_each.Goals as goal

pub loop-at-preserved : goal.loop-at-preserved
loop-at-preserved c =
    let xs = changes_in c.args.run.now.form in
    let k = c.loop-at.at in
    let t = state_of c.loop-at.cells in
    let low : k < length xs = omega (arith, c.loop-at-test.true, c.len-at-end.ensures) in
    clear_one_more xs k c.change.result (state_of c.args.cells.now) t (state_of c.clear_absent.new.cells) low c.change.ensures c.loop-at.invariant
    (c.clear_absent.ensures ∙ ap (λ (ys : Changes). apply (clears ys) t) c.from_ref.ensures.value)

pub returns-then-clears_nothing : goal.returns-then-clears_nothing
returns-then-clears_nothing c =
    ap (λ (ys : Changes). apply ys (state_of c.args.cells.now))
    (sym (ap (λ f. clears (changes_in f)) (sym c.form.ensures) ∙ c.clears_nothing.ensures c.if-clears_nothing.true))
