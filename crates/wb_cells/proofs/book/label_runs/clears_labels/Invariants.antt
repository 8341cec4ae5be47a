use Rattle.std.proofs.Common.{◌≡◌, None, drop, map}
use Rattle.wb_cells.specs.declared.changes.row.IndexedRow.TheVariants.{Members}
use Rattle.wb_cells.specs.Cells.{Name}
use Rattle.wb_cells.specs.MemberRuns.{members_to}
use Rattle.wb_cells.specs.Runs.{labelled_changes}
use Rattle.wb_cells.proofs.book.label_runs.clears_labels.Given as goal

-- the changes clear all where those that are left clear what the walk has left
abbrev pub invariant-loop-at : goal.invariant-loop-at
invariant-loop-at g l = (d : Name) → labelled_changes (Members d) (drop l.at l.labels.1) ≡ members_to d None (map g.K.AsIndex.as_index l.left) →
    labelled_changes (Members d) l.labels.1 ≡ members_to d None (map g.K.AsIndex.as_index l.keys.keys)
