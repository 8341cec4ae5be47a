use Rattle.std.proofs.Common.{false, ◌≡◌}
use Rattle.selective_undo.specs.declared.Change.{Change}
use Rattle.selective_undo.specs.Changes.{changes}
use Rattle.wb_cells.specs.declared.cells.cell.Cell.{Cell}
use Rattle.wb_cells.specs.declared.cells.value.Value.{Value}
use Rattle.wb_cells.specs.Cells.{cell_cmp}
use Rattle.wb_cells.proofs.Shown.{once_pushed}
use Rattle.wb_cells.proofs.changes.delta.Delta.put.Goals as goal

pub invariant_of-self : goal.invariant_of-self
invariant_of-self c =
    let xs = c.self.inside.changes in
    let x : Change Cell Value = record { cell = c.args.cell; value = c.args.value } in
    let new : changes cell_cmp xs x.cell ≡ false = rw c.self.view_is c.requires in
    once_pushed c.put_in.result xs c.put_in.new.changes x c.put_in.ensures.ok c.put_in.ensures.err c.self.invariant new
