use Rattle.std.proofs.Common.{◌≡◌, true, false}
use Rattle.selective_undo.specs.Changes.{changes}
use Rattle.wb_cells.specs.declared.cells.cell.Cell.{Cell}
use Rattle.wb_cells.specs.Cells.{cell_cmp}
use Rattle.wb_cells.specs.Runs.{changes_in}
use Rattle.wb_cells.proofs.Once.{once_added}
use Rattle.wb_cells.proofs.changes.delta.Delta.put_run.Goals as goal

pub invariant_of-self : goal.invariant_of-self
invariant_of-self c =
    let xs = c.self.inside.changes in
    let ys = changes_in c.args.run in
    let apart : (q : Cell) → changes cell_cmp ys q ≡ true → changes cell_cmp xs q ≡ false = λ q h. rw c.self.view_is (c.requires.new q h) in
    once_added c.push_run.result xs ys c.push_run.new.self c.push_run.ensures.ok c.push_run.ensures.err c.self.invariant c.requires.once apart
