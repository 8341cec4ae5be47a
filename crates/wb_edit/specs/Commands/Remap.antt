-- A new mapping of a domain.
use Rattle.std.specs.Prelude.{[], ◌∷◌}
use Rattle.selective_undo.specs.Edit.{write}
use Rattle.wb_dist.specs.Maps.{LayoutMap}
use Rattle.wb_cells.specs.declared.cells.cell.Cell.TheVariants.{Mapping}
use Rattle.wb_cells.specs.declared.cells.value.Value.TheVariants.{Mapping}
use Rattle.wb_cells.specs.Cells.{Name}
use Rattle.wb_edit.specs.Trees.{Tree, ◌>>=◌}
use Rattle.wb_edit.specs.Looks.{domain_named}
use Rattle.wb_edit.specs.Kinds.{rectangular}
use Rattle.wb_edit.specs.Layouts.{mapped}
use Rattle.wb_edit.specs.Writes.{set_to}

-- a new mapping of a domain: the domain is there and rectangular, and the mapping is for its rank
abbrev pub remap : Name → LayoutMap → Tree
remap d m = do
  kind ← domain_named d
  rank ← rectangular kind
  unit ← mapped rank m
  write (set_to (Mapping d) (Mapping m) ∷ [])
