-- The end of a domain.
use Rattle.selective_undo.specs.Edit.{write}
use Rattle.wb_cells.specs.Cells.{Name}
use Rattle.wb_edit.specs.Trees.{Tree, ◌>>=◌}
use Rattle.wb_edit.specs.Looks.{domain_named, domain_indices}
use Rattle.wb_edit.specs.Users.{unused}
use Rattle.wb_reshape.specs.Dropped.{dropped_domain_cells}

-- the end of a domain: it is there, nothing is bound to it, and it is seen which indices it has
abbrev pub drop_domain : Name → Tree
drop_domain d = do
  kind ← domain_named d
  unit ← unused d
  is ← domain_indices d kind
  write (dropped_domain_cells d kind is)
