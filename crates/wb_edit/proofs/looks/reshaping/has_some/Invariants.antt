use Rattle.std.proofs.Common.{◌≡◌, ◌++◌, map, take, is_some}
use Rattle.std.specs.FinMap.{get}
use Rattle.std.specs.List.{list_any}
use Rattle.wb_cells.specs.declared.cells.cell.Cell.TheVariants.{Member}
use Rattle.wb_cells.specs.Reads.{one_of}
use Rattle.wb_edit.proofs.looks.reshaping.has_some.Given as goal

-- the cells of the indices so far were looked at
abbrev pub invariant-loop-index : goal.invariant-loop-index
invariant-loop-index l = record {
  read : l.footprint ≡ l.fn.footprint ++ map one_of (map (Member l.domain) (take l.index-index l.listed));
  there : l.any ≡ list_any is_some (map (get l.book.cells) (map (Member l.domain) (take l.index-index l.listed)));
}
