-- A new sparse domain (Chapel Language Specification, Domains).
use Rattle.std.specs.Prelude.{[], ◌∷◌}
use Rattle.selective_undo.specs.Edit.{write}
use Rattle.wb_cells.specs.declared.cells.cell.Cell.TheVariants.{Object, Use}
use Rattle.wb_cells.specs.declared.cells.value.Binding.TheVariants.{Sparse}
use Rattle.wb_cells.specs.declared.cells.kind.DomainKind.TheVariants.{Sparse}
use Rattle.wb_cells.specs.declared.cells.value.Value.TheVariants.{Domain, Bound}
use Rattle.wb_cells.specs.Cells.{Name}
use Rattle.wb_edit.specs.Trees.{Tree, ◌>>=◌}
use Rattle.wb_edit.specs.Looks.{free_name, domain_named}
use Rattle.wb_edit.specs.Kinds.{rectangular}
use Rattle.wb_edit.specs.Writes.{set_to}

-- a new sparse domain, with no index yet, in a rectangular one, to which it is bound: its name is free, and the other domain
-- is there and rectangular (Chapel Language Specification, Domains)
abbrev pub sparse : Name → Name → Tree
sparse d parent = do
  unit ← free_name d
  kind ← domain_named parent
  rank ← rectangular kind
  write (set_to (Object d) (Domain (Sparse parent rank)) ∷ set_to (Use parent d) (Bound Sparse) ∷ [])
