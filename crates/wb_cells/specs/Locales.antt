-- On which locale an index of a domain lies (Chapel Language Specification, Domain Maps).
use Rattle.std.specs.Prelude.{Bool, false, ℕ, Option, Some, None, is_some, option_map, option_and_then, if◌then◌else◌}
use Rattle.std.specs.FinMap.{get}
use Rattle.std.specs.Option.{option_map_or}
use Rattle.wb_dist.specs.Maps.{LayoutMap, locale_count_of}
use Rattle.wb_cells.specs.declared.cells.cell.Cell.TheVariants.{Shape, Member, Mapping}
use Rattle.wb_cells.specs.declared.cells.kind.DomainKind.{DomainKind}
use Rattle.wb_cells.specs.declared.cells.kind.DomainKind.TheVariants.{Rectangular, Sparse, Associative}
use Rattle.wb_cells.specs.declared.cells.value.Value.{Value}
use Rattle.wb_cells.specs.declared.cells.value.Value.TheVariants.{Mapping}
use Rattle.wb_cells.specs.declared.values.index.Index.{Index}
use Rattle.wb_cells.specs.Cells.{Name, Cells}
use Rattle.wb_cells.specs.Kinds.{kind_of}
use Rattle.wb_cells.specs.Layouts.{locale_in}
use Rattle.wb_cells.specs.Shapes.{indices}
use Rattle.wb_cells.specs.WellFormed.{domain_at, ranges_in, has, index_cell}

-- ---- by the mapping of a rectangular domain

abbrev pub mapping_in : Option Value → Option LayoutMap
mapping_in (Some (Mapping m)) = Some m
mapping_in _ = None

-- the locale of an index by the mapping of a rectangular domain, whether the domain has the index or not; none where the
-- name is that of no rectangular domain, or the index is of another rank
abbrev pub locale_by : Cells → Name → Index → Option ℕ
locale_by s d i = option_and_then (λ m. locale_in m i) (mapping_in (get s (Mapping d)))

-- how many locales the mapping of a domain has; none where the name is that of no rectangular domain
abbrev pub locale_count_at : Cells → Name → Option ℕ
locale_count_at s d = option_map locale_count_of (mapping_in (get s (Mapping d)))

-- ---- of a domain of any kind

-- a domain of a kind has the index
abbrev pub has_index : Cells → Name → Index → DomainKind → Bool
has_index s d i kind = is_some (get s (index_cell (kind_of kind) d i))

-- the domain of a name has the index
abbrev pub is_index_at : Cells → Name → Index → Bool
is_index_at s d i = option_map_or (has_index s d i) (domain_at s d) false

-- where a domain of a kind puts an index: a rectangular one goes by its mapping, a sparse one by its parent's, and an
-- associative one has all on locale 0
abbrev pub locale_of_kind : Cells → Name → Index → DomainKind → Option ℕ
locale_of_kind s d i (Rectangular rank) = locale_by s d i
locale_of_kind s d i (Sparse parent rank) = locale_by s parent i
locale_of_kind s d i (Associative type) = Some 0

-- the locale of an index that the domain has
abbrev pub locale_within : Cells → Name → Index → DomainKind → Option ℕ
locale_within s d i kind = if has_index s d i kind then locale_of_kind s d i kind else None

-- the locale of an index of the domain of a name; none where there is no such domain, or it doesn't have the index
abbrev pub locale_at : Cells → Name → Index → Option ℕ
locale_at s d i = option_and_then (locale_within s d i) (domain_at s d)

-- ---- the same without the cells `In`, which follow from the ranges

-- a domain of a kind has the index: by its ranges if it is rectangular, by its members if not
abbrev pub is_held : Cells → Name → Index → DomainKind → Bool
is_held s d i (Rectangular rank) = option_map_or (λ rs. has (indices rs) i) (ranges_in (get s (Shape d))) false
is_held s d i (Sparse parent rank) = is_some (get s (Member d i))
is_held s d i (Associative type) = is_some (get s (Member d i))

-- the locale of an index that a domain of a kind has so
abbrev pub locale_held_by : Cells → Name → Index → DomainKind → Option ℕ
locale_held_by s d i kind = if is_held s d i kind then locale_of_kind s d i kind else None

-- the locale of an index that the domain of a name has so
abbrev pub locale_held : Cells → Name → Index → Option ℕ
locale_held s d i = option_and_then (locale_held_by s d i) (domain_at s d)
