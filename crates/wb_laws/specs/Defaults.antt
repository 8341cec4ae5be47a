-- What the readers say where a cell is missing (a size of 0, locale 0, one locale) is said of no domain of a well-formed
-- workbook for want of a cell.
use Rattle.std.specs.Prelude.{◌≡◌, Option, Some, None, IsSome}
use Rattle.std.specs.FinMap.{get}
use Rattle.wb_cells.specs.declared.cells.cell.Cell.TheVariants.{Object, Element}
use Rattle.wb_cells.specs.declared.cells.kind.DomainKind.{DomainKind}
use Rattle.wb_cells.specs.declared.cells.kind.DomainKind.TheVariants.{Rectangular, Sparse, Associative}
use Rattle.wb_cells.specs.declared.cells.value.Value.TheVariants.{Domain}
use Rattle.wb_cells.specs.declared.values.index.Index.{Index}
use Rattle.wb_cells.specs.Cells.{Name, Cells}
use Rattle.wb_cells.specs.Kinds.{kind_of}
use Rattle.wb_cells.specs.Locales.{locale_by, locale_count_at, locale_at}
use Rattle.wb_cells.specs.Readers.{size_at}
use Rattle.wb_cells.specs.WellFormed.{IsWellFormed, array_at, index_cell}
use Rattle.wb_history.specs.Pieces.{mapped_at}

-- what goes by a mapping is there for a rectangular and for a sparse domain; an associative one has no mapping: all of it lies
-- on locale 0, and that is the only one
abbrev pub GoesByMapping : {X : Type 0} → DomainKind → Option X → Type 0
GoesByMapping (Rectangular rank) o = IsSome o
GoesByMapping (Sparse parent rank) o = IsSome o
GoesByMapping (Associative type) o = o ≡ None

-- Nothing that the readers of the domain d look for is missing.
pub record HasAll (s : Cells) (d : Name) (kind : DomainKind) : Type 0 where
  -- how many indices it has
  pub size : IsSome (size_at s d)
  -- on which locale each of them lies
  pub locale : (i : Index) → IsSome (get s (index_cell (kind_of kind) d i)) → IsSome (locale_at s d i)
  -- how many locales there are for it, and which is that of an index by the mapping
  pub locales : GoesByMapping kind (locale_count_at s (mapped_at s d))
  pub mapped : (i : Index) → IsSome (get s (index_cell (kind_of kind) d i)) → GoesByMapping kind (locale_by s (mapped_at s d) i)
  -- each element of an array over it is at an index of it
  pub elements : (a : Name) → array_at s a ≡ Some (d, kind_of kind) → (i : Index) → IsSome (get s (Element a i)) →
      IsSome (get s (index_cell (kind_of kind) d i))

-- So it is for each domain of a well-formed workbook.
abbrev pub DefaultsLaw : Type 0
DefaultsLaw = (s : Cells) (d : Name) (kind : DomainKind) → IsWellFormed s → get s (Object d) ≡ Some (Domain kind) → HasAll s d kind
