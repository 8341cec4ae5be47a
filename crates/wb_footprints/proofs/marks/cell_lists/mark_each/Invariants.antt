use Rattle.std.proofs.Common.{take, true}
use Rattle.wb_cells.specs.Runs.{changes_in}
use Rattle.wb_footprints.specs.Relation.{Sets}
use Rattle.wb_footprints.specs.Places.{place_marked}
use Rattle.wb_footprints.specs.Footprints.{marked_at}
use Rattle.wb_footprints.proofs.marks.cell_lists.mark_each.Given as goal

abbrev pub invariant-loop-at : goal.invariant-loop-at
invariant-loop-at l = Sets (place_marked l.initial.marks) (place_marked l.marks) (marked_at l.marking (take l.at (changes_in l.cells.form))) l.number true
