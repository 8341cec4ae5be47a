use Rattle.std.proofs.Common.{◌≡◌, ◌++◌, map, take, is_some}
use Rattle.std.specs.FinMap.{get}
use Rattle.std.specs.List.{list_all}
use Rattle.wb_cells.specs.Runs.{cell_of}
use Rattle.wb_cells.specs.Reads.{one_of}
use Rattle.wb_edit.proofs.looks.resizing.are_there.Given as goal

-- the cells of the indices so far were looked at
abbrev pub invariant-loop-index : goal.invariant-loop-index
invariant-loop-index l = record {
  read : l.footprint ≡ l.fn.footprint ++ map one_of (map (cell_of l.row) (take l.index-index l.listed));
  there : l.all ≡ list_all is_some (map (get l.book.cells) (map (cell_of l.row) (take l.index-index l.listed)));
}
