-- What the end of a domain writes (Chapel Language Specification, Domains).
use Rattle.std.specs.Prelude.{List, [], ◌∷◌, ◌++◌, map}
use Rattle.wb_cells.specs.declared.cells.cell.Cell.{Cell}
use Rattle.wb_cells.specs.declared.cells.cell.Cell.TheVariants.{Object, Shape, Mapping, Use}
use Rattle.wb_cells.specs.declared.cells.kind.DomainKind.{DomainKind}
use Rattle.wb_cells.specs.declared.cells.kind.DomainKind.TheVariants.{Rectangular, Sparse, Associative}
use Rattle.wb_cells.specs.declared.values.index.Index.{Index}
use Rattle.wb_cells.specs.Cells.{Name, Changes}
use Rattle.wb_cells.specs.Kinds.{kind_of}
use Rattle.wb_cells.specs.WellFormed.{index_cell}
use Rattle.wb_reshape.specs.Writes.{clear_all}

-- what there is of a domain besides its indices
abbrev pub cells_beside_indices : Name → DomainKind → List Cell
cells_beside_indices d (Rectangular rank) = Object d ∷ Shape d ∷ Mapping d ∷ []
cells_beside_indices d (Sparse parent rank) = Object d ∷ Use parent d ∷ []
cells_beside_indices d (Associative type) = Object d ∷ []

-- what the end of a domain writes: all of it becomes absent, and so does that it has its indices
abbrev pub dropped_domain_cells : Name → DomainKind → List Index → Changes
dropped_domain_cells d kind is = clear_all (cells_beside_indices d kind) ++ clear_all (map (index_cell (kind_of kind) d) is)
