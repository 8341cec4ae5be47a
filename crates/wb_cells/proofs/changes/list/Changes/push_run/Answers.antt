use Rattle.std.proofs.Common.{arith}
use Rattle.wb_cells.specs.Runs.{changes_of, changes_in}
use Rattle.wb_cells.proofs.Runs.{count_few}
use Rattle.wb_cells.proofs.changes.list.Changes.push_run.Goals as goal

pub overflow_add-counted : goal.overflow_add-counted
overflow_add-counted c =
    let few = count_few (changes_of c.self.inside.first c.self.inside.runs) in
    let more = count_few (changes_in c.args.form) in
    omega (arith, c.in-Some.ensures, few, more, c.self.invariant.all, c.self.invariant.counted, c.count.ensures)
