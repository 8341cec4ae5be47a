use Rattle.std.proofs.Common.{false, ◌≡◌}
use Rattle.selective_undo.specs.Changes.{changes}
use Rattle.wb_cells.specs.Cells.{cell_cmp}
use Rattle.wb_cells.specs.Runs.{cell_of}
use Rattle.wb_cells.specs.declared.values.index.Index.{Index}
use Rattle.wb_range.specs.Domain.{IsListedOnce}
use Rattle.wb_cells.specs.Shapes.{indices}
use Rattle.wb_cells.proofs.Rectangles.{once_rectangle}
use Rattle.wb_cells.proofs.changes.delta.Delta.put_rectangle.Goals as goal

pub invariant_of-self : goal.invariant_of-self
invariant_of-self c =
    let xs = c.self.inside.changes in
    let made = c.new-made.result in
    let fresh : (i : Index) → changes cell_cmp xs (cell_of c.args.row.now i) ≡ false = λ i. rw c.self.view_is (c.requires i) in
    let new : (i : Index) → changes cell_cmp xs (cell_of made.row i) ≡ false = λ i. rw c.new-made.ensures (fresh i) in
    let once : IsListedOnce (indices made.ranges) = rw c.new-made.ensures c.size-once.ensures.once in
    once_rectangle c.push_run.result xs c.push_run.new.self made.row made.ranges made.number c.push_run.ensures.ok c.push_run.ensures.err
    c.self.invariant once new
