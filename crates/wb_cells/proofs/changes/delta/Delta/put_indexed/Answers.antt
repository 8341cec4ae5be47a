use Rattle.std.proofs.Common.{false, ◌≡◌}
use Rattle.selective_undo.specs.Changes.{changes}
use Rattle.wb_cells.specs.Cells.{cell_cmp}
use Rattle.wb_cells.specs.Runs.{indexed_change}
use Rattle.wb_cells.proofs.Shown.{once_pushed}
use Rattle.wb_cells.proofs.changes.delta.Delta.put_indexed.Goals as goal

pub invariant_of-self : goal.invariant_of-self
invariant_of-self c =
    let xs = c.self.inside.changes in
    let x = indexed_change c.args.change.now in
    let new : changes cell_cmp xs x.cell ≡ false = rw c.self.view_is c.requires in
    once_pushed c.push_indexed.result xs c.push_indexed.new.self x c.push_indexed.ensures.ok c.push_indexed.ensures.err c.self.invariant new
