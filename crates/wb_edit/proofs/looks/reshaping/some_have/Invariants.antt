use Rattle.std.proofs.Common.{◌≡◌, ◌++◌, map, take, is_some}
use Rattle.std.specs.FinMap.{get}
use Rattle.std.specs.List.{list_any}
use Rattle.wb_cells.specs.Reads.{one_of}
use Rattle.wb_edit.specs.Reshaping.{member_cells}
use Rattle.wb_edit.proofs.looks.reshaping.some_have.Given as goal

-- the cells of the domains so far were looked at
abbrev pub invariant-loop-domain : goal.invariant-loop-domain
invariant-loop-domain l = record {
  read : l.footprint ≡ l.fn.footprint ++ map one_of (member_cells (take l.domain-index l.domains) l.listed);
  there : l.any ≡ list_any is_some (map (get l.book.cells) (member_cells (take l.domain-index l.domains) l.listed));
}
