use Rattle.std.proofs.Common.{take, true}
use Rattle.wb_cells.specs.Reads.{all_read}
use Rattle.wb_footprints.specs.Relation.{Sets}
use Rattle.wb_footprints.specs.Places.{place_marked}
use Rattle.wb_footprints.specs.Footprints.{read_at}
use Rattle.wb_footprints.proofs.marks.reading.read_runs.Given as goal

abbrev pub invariant-loop-run : goal.invariant-loop-run
invariant-loop-run l = Sets (place_marked l.initial.marks) (place_marked l.marks) (read_at (all_read (take l.run-index l.runs))) l.number true
