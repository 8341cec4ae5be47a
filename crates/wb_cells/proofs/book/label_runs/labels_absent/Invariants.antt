use Rattle.std.proofs.Common.{◌≡◌, None, map, take}
use Rattle.wb_cells.specs.declared.changes.row.IndexedRow.TheVariants.{Members}
use Rattle.wb_cells.proofs.book.label_runs.labels_absent.Given as goal

abbrev pub invariant-loop-at : goal.invariant-loop-at
invariant-loop-at l = l.found ≡ (Members l.domain, map (λ e. (e.0, None)) (take l.at l.labels.1))
