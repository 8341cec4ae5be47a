-- A new rectangular domain (Chapel Language Specification, Domains and Domain Maps).
use Rattle.std.specs.Prelude.{List, ◌∷◌, map, length}
use Rattle.selective_undo.specs.Edit.{write}
use Rattle.wb_dist.specs.Maps.{LayoutMap}
use Rattle.wb_cells.specs.declared.cells.cell.Cell.TheVariants.{Object, Shape, In, Mapping}
use Rattle.wb_cells.specs.declared.cells.kind.DomainKind.TheVariants.{Rectangular}
use Rattle.wb_cells.specs.declared.cells.value.Value.TheVariants.{Domain, Ranges, Mapping, Present}
use Rattle.wb_cells.specs.Cells.{Name, Changes}
use Rattle.wb_cells.specs.Shapes.{Range, indices}
use Rattle.wb_edit.specs.declared.asked_rectangle.AskedRectangle.{AskedRectangle}
use Rattle.wb_edit.specs.Trees.{Tree, ◌>>=◌}
use Rattle.wb_edit.specs.Looks.{free_name}
use Rattle.wb_edit.specs.Layouts.{mapped}
use Rattle.wb_edit.specs.Rectangles.{asked_ranges}
use Rattle.wb_edit.specs.Writes.{set_to, put_all}

-- what a new rectangular domain writes: the domain with its rank, its ranges, its mapping, and that each of its indices
-- is in it (Chapel Language Specification, Domains and Domain Maps)
abbrev pub new_domain_changes : Name → List Range → LayoutMap → Changes
new_domain_changes d rs m =
    set_to (Object d) (Domain (Rectangular (length rs)))
    ∷ set_to (Shape d) (Ranges rs)
    ∷ set_to (Mapping d) (Mapping m)
    ∷ put_all (map (In d) (indices rs)) Present

-- a new rectangular domain: its name is free, a rectangle is asked for, and the mapping is for its rank
abbrev pub domain : Name → AskedRectangle → LayoutMap → Tree
domain d asked m = do
  unit ← free_name d
  rs ← asked_ranges asked
  unit ← mapped (length rs) m
  write (new_domain_changes d rs m)
