use Rattle.std.proofs.Common.{arith}
use Rattle.wb_cells.specs.Runs.{changes_of}
use Rattle.wb_cells.proofs.Runs.{count_few}
use Rattle.wb_cells.proofs.changes.list.Changes.push.Goals as goal

pub overflow_add-counted : goal.overflow_add-counted
overflow_add-counted c =
    let few = count_few (changes_of c.self.inside.first c.self.inside.runs) in
    omega (arith, c.in-Some.ensures, few, c.self.invariant.all, c.self.invariant.counted, c.counted_one.ensures.few)
