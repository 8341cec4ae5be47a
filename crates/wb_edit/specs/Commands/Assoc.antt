-- A new associative domain (Chapel Language Specification, Domains).
use Rattle.std.specs.Prelude.{[], ◌∷◌}
use Rattle.selective_undo.specs.Edit.{write}
use Rattle.wb_cells.specs.declared.cells.cell.Cell.TheVariants.{Object}
use Rattle.wb_cells.specs.declared.cells.kind.DomainKind.TheVariants.{Associative}
use Rattle.wb_cells.specs.declared.cells.kind.KeyType.{KeyType}
use Rattle.wb_cells.specs.declared.cells.value.Value.TheVariants.{Domain}
use Rattle.wb_cells.specs.Cells.{Name}
use Rattle.wb_edit.specs.Trees.{Tree, ◌>>=◌}
use Rattle.wb_edit.specs.Looks.{free_name}
use Rattle.wb_edit.specs.Writes.{set_to}

-- a new associative domain, with no index yet: its name is free (Chapel Language Specification, Domains)
abbrev pub assoc : Name → KeyType → Tree
assoc d type = do
  unit ← free_name d
  write (set_to (Object d) (Domain (Associative type)) ∷ [])
