use Rattle.std.proofs.Common.{◌≡◌, sym, ap, ◌∙◌}
use Rattle.std.specs.FinMap.{get}
use Rattle.selective_undo.specs.Changes.{inverse, sets}
use Rattle.wb_cells.specs.declared.cells.cell.Cell.TheVariants.{Member}
use Rattle.wb_cells.specs.declared.changes.run.RunForm.{RunForm}
use Rattle.wb_cells.specs.Cells.{Changes, state_of}
use Rattle.wb_cells.specs.Runs.{changes_in}
use Rattle.wb_cells.proofs.MemberRuns.{if_told}
use Rattle.wb_cells.proofs.Shown.{get-state_of}
use Rattle.wb_book.proofs.StoredRuns.{all_set}
use Rattle.wb_book.proofs.storing.whole_before.Goals as goal

pub returns-then-clears_nothing : goal.returns-then-clears_nothing
returns-then-clears_nothing c =
    let s = state_of c.args.cells.now in
    let xs = changes_in c.args.form.now in
    if_told _ (λ (f : RunForm). changes_in f ≡ inverse (sets xs) s)
    (λ f told. told (get s) (λ d i. get-state_of c.args.cells.now (Member d i))
    ∙ sym (ap (λ (ys : Changes). inverse ys s) (all_set xs (c.clears_nothing.ensures c.if-clears_nothing.true))))
    c.members_before.result c.members_before.ensures
