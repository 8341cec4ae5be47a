use Rattle.std.proofs.Common.{◌-◌, map, drop, length}
use Rattle.wb_text.specs.Said.{line_of}
use Rattle.wb_reading.specs.Laid.{AreArraysTold}
use Rattle.wb_reading.proofs.workbook.arrays.arrays_told.Given as goal

-- the arrays of the lines from the last one back are made
abbrev pub invariant-loop-done : goal.invariant-loop-done
invariant-loop-done l = AreArraysTold (map line_of l.lines) (map line_of (drop (length l.lines - l.done) l.lines)) l.arrays.entries
