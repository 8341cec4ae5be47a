use Rattle.std.proofs.Common.{take, true}
use Rattle.wb_cells.specs.Runs.{all_changes}
use Rattle.wb_footprints.specs.Relation.{Sets}
use Rattle.wb_footprints.specs.Places.{place_marked}
use Rattle.wb_footprints.specs.Footprints.{marked_at}
use Rattle.wb_footprints.proofs.marks.cell_lists.mark_runs.Given as goal

abbrev pub invariant-loop-run : goal.invariant-loop-run
invariant-loop-run l = Sets (place_marked l.initial.marks) (place_marked l.marks) (marked_at l.marking (all_changes (take l.run-index l.runs))) l.number true
