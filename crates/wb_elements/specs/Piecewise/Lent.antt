-- The pieces of the elements of an array (Chapel Language Specification, Domain Maps).
use Rattle.std.specs.Prelude.{ℕ, ◌==◌, ℤ, Bool, nat_lt, List, filter, Option, Some, None, unwrap_or, if◌then◌else◌}
use Rattle.wb_cells.specs.declared.values.index.Index.{Index}
use Rattle.wb_cells.specs.declared.values.index.Index.TheVariants.{Point, Text}
use Rattle.wb_cells.specs.Layouts.{locale_in}
use Rattle.wb_dist.specs.Maps.{LayoutMap, locale_count_of}
use Rattle.wb_elements.specs.declared.piece.Pairs.{Pairs}
use Rattle.wb_elements.specs.declared.piece.Pairs.TheVariants.{Rank1, Rank2, Rank3, Text as Texts}
use Rattle.wb_elements.specs.Piecewise.Indexed.{indexed}

-- an element after its index lies on a locale by a mapping: at a text on locale 0
abbrev pub lies_on : LayoutMap → ℕ → Index × ℤ → Bool
lies_on m l x = unwrap_or (locale_in m x.0) 0 == l

-- the elements on a locale, if the mapping has it
abbrev pub piece_in : LayoutMap → List (Index × ℤ) → ℕ → Option (List (Index × ℤ))
piece_in m es l = if nat_lt l (locale_count_of m) then Some (filter (lies_on m l) es) else None

-- what is lent
abbrev pub lent : Pairs → List (Index × ℤ)
lent (Rank1 s) = indexed Point s.now
lent (Rank2 s) = indexed Point s.now
lent (Rank3 s) = indexed Point s.now
lent (Texts s) = indexed Text s.now
