use Rattle.std.proofs.Common.{Result, Ok, [], refl}
use Rattle.wb_cells.specs.declared.changes.row.IndexedRow.TheVariants.{Elements}
use Rattle.wb_cells.proofs.Rectangles.{once_numbered}
use Rattle.wb_log.specs.Fills.{filled_in}
use Rattle.wb_log.proofs.filled_cells.FilledCells.changes.Goals as goal

pub returns-in-Ok-push_run-clause-once : goal.returns-in-Ok-push_run-clause-once
returns-in-Ok-push_run-clause-once c =
    let f = c.args.self.now in
    let made : Result (Unit {0}) (Unit {0}) = Ok c.in-Ok-push_run.field-0 in
    once_numbered made [] (filled_in f) (Elements f.array.now) f.on.now f.numbers.now refl tt tt c.size-once.ensures.once (λ i. refl)
