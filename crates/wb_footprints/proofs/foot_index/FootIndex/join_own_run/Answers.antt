use Rattle.std.specs.List.{list_any}
use Rattle.wb_cells.specs.Runs.{cell_of}
use Rattle.wb_footprints.specs.Footprints.{marked_own}
use Rattle.wb_footprints.proofs.Through.{wait_already}
use Rattle.wb_footprints.proofs.foot_index.FootIndex.join_own_run.Goals as goal

pub returns-then-covers-clause-joined : goal.returns-then-covers-clause-joined
returns-then-covers-clause-joined c =
    let m = c.args.self.now in
    let run = c.args.run in
    wait_already c.args.waiting.now (λ n. list_any (λ p. marked_own m (cell_of run.row p) n) run.indices) c.args.after
    (c.covers.ensures c.if-covers.true m c.args.waiting.now c.args.after c.requires)
