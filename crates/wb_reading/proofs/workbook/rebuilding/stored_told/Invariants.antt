use Rattle.std.proofs.Common.{◌≡◌, true, map, take, drop}
use Rattle.std.specs.FinMap.{empty}
use Rattle.std.specs.List.{list_all}
use Rattle.wb_cells.specs.Cells.{state_of}
use Rattle.wb_text.specs.Said.{line_of}
use Rattle.wb_text.specs.FromLines.Told.{is_sound, stored_put}
use Rattle.wb_reading.proofs.workbook.rebuilding.stored_told.Given as goal

abbrev pub invariant-loop-line : goal.invariant-loop-line
invariant-loop-line l = record {
  sound : list_all (λ x. is_sound (map line_of l.lines) (line_of x)) (take l.line-index l.lines) ≡ true;
  ahead : stored_put (map line_of l.lines) (map line_of (drop l.line-index l.lines)) (state_of l.cells) ≡ stored_put (map line_of l.lines)
      (map line_of l.lines) empty;
}
