-- In a well-formed workbook each mapping puts each index on one of its locales, and each index of a domain lies on one.
use Rattle.std.proofs.Common.{◌≡◌, ℕ, ◌<◌, true, false, Option, Some, None, is_some, length, refl, ap, subst, arith}
use Rattle.std.specs.Prelude.{option_map, option_and_then, unwrap_or, if◌then◌else◌}
use Rattle.std.specs.FinMap.{get}
use Rattle.std.specs.Option.{option_map_or}
use Rattle.wb_dist.specs.Grid.{is_grid}
use Rattle.wb_dist.specs.Maps.{LayoutMap, whole, block, cyclic, block_cyclic, is_layout, locale_of, locale_count_of}
use Rattle.wb_dist.proofs.Places.{some_locales}
use Rattle.wb_cells.specs.declared.cells.cell.Cell.TheVariants.{Mapping}
use Rattle.wb_cells.specs.declared.cells.kind.DomainKind.{DomainKind}
use Rattle.wb_cells.specs.declared.cells.kind.DomainKind.TheVariants.{Rectangular, Sparse, Associative}
use Rattle.wb_cells.specs.declared.cells.value.Value.{Value}
use Rattle.wb_cells.specs.declared.values.index.Index.{Index}
use Rattle.wb_cells.specs.declared.values.index.Index.TheVariants.{Point, Text}
use Rattle.wb_cells.specs.Cells.{Name, Cells}
use Rattle.wb_cells.specs.Layouts.{is_of_rank, locale_in}
use Rattle.wb_cells.specs.Locales.{mapping_in, locale_by, locale_count_at, has_index, locale_of_kind, locale_within}
use Rattle.wb_cells.specs.WellFormed.{IsWellFormed, HasMapping, domain_at}
use Rattle.wb_cells.proofs.Lying.{locale_there}
use Rattle.wb_laws.proofs.LocalesBelow.{locale_below, last_of}

-- ---- a mapping

-- it has a locale
some_locale : (rank : ℕ) (m : LayoutMap) → is_layout rank m ≡ true → 0 < locale_count_of m
some_locale rank whole e = omega arith
some_locale rank (block m) e = some_locales m.grid (last_of _ (is_grid m.grid) e)
some_locale rank (cyclic m) e = some_locales m.grid (last_of _ (is_grid m.grid) e)
some_locale rank (block_cyclic m) e = some_locales m.grid (last_of _ (is_grid m.grid) e)

-- an index lies on one of the locales, and what has another rank counts as on the first
found_below : (rank : ℕ) (m : LayoutMap) (i : Index) → is_layout rank m ≡ true → unwrap_or (locale_in m i) 0 < locale_count_of m
found_below rank m (Text t) e = some_locale rank m e
found_below rank m (Point is) e = elim (is_of_rank (length is) m) as (λ b. unwrap_or (if b then Some (locale_of m is) else None) 0 < locale_count_of m) [
  | true ↦ locale_below rank m is e
  | false ↦ some_locale rank m e
]

-- ---- the mapping of a domain

-- what is not there puts all on locale 0 of one
lies_by_kind : (kind : Option DomainKind) (v : Option Value) (i : Index) → HasMapping kind v →
    unwrap_or (option_and_then (λ m. locale_in m i) (mapping_in v)) 0 < unwrap_or (option_map locale_count_of (mapping_in v)) 1
lies_by_kind (Some (Rectangular rank)) v i has = rw has.1 (found_below rank has.0 i has.2.valid)
lies_by_kind (Some (Sparse parent rank)) v i has = rw has (omega arith)
lies_by_kind (Some (Associative type)) v i has = rw has (omega arith)
lies_by_kind None v i has = rw has (omega arith)

pub lies_below : (s : Cells) (e : Name) (i : Index) → IsWellFormed s → unwrap_or (locale_by s e i) 0 < unwrap_or (locale_count_at s e) 1
lies_below s e i h = lies_by_kind (domain_at s e) (get s (Mapping e)) i (h.mappings e)

-- ---- what goes by a mapping

counted_by : (rank : ℕ) (v : Option Value) → HasMapping (Some (Rectangular rank)) v → is_some (option_map locale_count_of (mapping_in v)) ≡ true
counted_by rank v has = rw has.1 refl

-- a rectangular domain has a number of locales
pub counted : (s : Cells) (d : Name) (rank : ℕ) → IsWellFormed s → domain_at s d ≡ Some (Rectangular rank) → is_some (locale_count_at s d) ≡ true
counted s d rank h is = counted_by rank (get s (Mapping d)) (subst (λ o. HasMapping o (get s (Mapping d))) is (h.mappings d))

-- another domain has no mapping
pub uncounted : (s : Cells) (d : Name) (type : _) → IsWellFormed s → domain_at s d ≡ Some (Associative type) → locale_count_at s d ≡ None
uncounted s d type h is =
    let none : get s (Mapping d) ≡ None = subst (λ o. HasMapping o (get s (Mapping d))) is (h.mappings d) in
    ap (λ v. option_map locale_count_of (mapping_in v)) none

-- an index of a domain has a locale by its kind
pub located : (s : Cells) (d : Name) (kind : DomainKind) (i : Index) → IsWellFormed s → domain_at s d ≡ Some kind → has_index s d i kind ≡ true →
    is_some (locale_of_kind s d i kind) ≡ true
located s d kind i h is has =
    let there : is_some (option_and_then (locale_within s d i) (Some kind)) ≡ option_map_or (has_index s d i) (Some kind) false =
    subst (λ (o : Option DomainKind). is_some (option_and_then (locale_within s d i) o) ≡ option_map_or (has_index s d i) o false) is (locale_there s h d i) in
    subst (λ b. is_some (if b then locale_of_kind s d i kind else None) ≡ b) has there
