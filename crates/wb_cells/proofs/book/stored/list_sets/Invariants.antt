use Rattle.std.proofs.Common.{◌≡◌, ◌++◌}
use Rattle.std.specs.List.{flat_map}
use Rattle.wb_cells.specs.Stored.{member_cells}
use Rattle.wb_cells.proofs.book.stored.list_sets.Given as goal

-- the cells so far and those of the domains that are left
abbrev pub invariant-loop-domain : goal.invariant-loop-domain
invariant-loop-domain l = l.found.items ++ flat_map member_cells l.domain-iterator ≡ l.fn.found.items ++ flat_map member_cells l.sets.entries
