use Rattle.std.proofs.Common.{◌≡◌, ◌-◌, true, map, drop, length}
use Rattle.wb_text.specs.Said.{line_of}
use Rattle.wb_text.specs.FromLines.Found.{Finds}
use Rattle.wb_text.specs.FromLines.Told.{are_distinct}
use Rattle.wb_text.proofs.workbook.finding.places_of.Given as goal

-- the lines from the last one back have been found, and are of different names
abbrev pub invariant-loop-done : goal.invariant-loop-done
invariant-loop-done l = record {
  finds : Finds l.places (map line_of l.lines) (map line_of (drop (length l.lines - l.done) l.lines));
  distinct : are_distinct (map line_of (drop (length l.lines - l.done) l.lines)) ≡ true;
}
