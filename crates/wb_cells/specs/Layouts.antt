-- Mappings of the workbook's rectangular domains: for which rank, and on which locale an index lies
-- (Chapel Language Specification, Domain Maps).
use Rattle.std.specs.Prelude.{◌≡◌, ℕ, ◌==◌, nat_eq, Bool, true, length, Option, Some, None, ⊤, refl, if◌then◌else◌, FitsSigned}
use Rattle.std.specs.Int.{w64}
use Rattle.std.specs.List.{All}
use Rattle.wb_rect.specs.Product.{IsRectangle}
use Rattle.wb_dist.specs.Maps.{LayoutMap, whole, block, cyclic, block_cyclic, is_layout, locale_of}
use Rattle.wb_cells.specs.declared.values.index.Index.{Index}
use Rattle.wb_cells.specs.declared.values.index.Index.TheVariants.{Point, Text}
use Rattle.wb_cells.specs.declared.values.layout.LayoutByRank.{LayoutByRank}
use Rattle.wb_cells.specs.declared.values.layout.LayoutByRank.TheVariants.{Whole, Rank1, Rank2, Rank3}

-- ---- for which rank

-- whether a mapping is for domains of the rank; the one that keeps all on one locale is for every rank
abbrev pub is_of_rank : ℕ → LayoutMap → Bool
is_of_rank rank whole = true
is_of_rank rank (block m) = rank == length m.grid
is_of_rank rank (cyclic m) = rank == length m.grid
is_of_rank rank (block_cyclic m) = rank == length m.grid

-- a box is within the limits of a rectangular domain, and the numbers of a start and of block sizes are of 64 bits
abbrev pub IsInLimits : ℕ → LayoutMap → Type 0
IsInLimits rank whole = ⊤
IsInLimits rank (block m) = IsRectangle rank m.box
IsInLimits rank (cyclic m) = All (FitsSigned w64) m.start
IsInLimits rank (block_cyclic m) = All (FitsSigned w64) m.start × All (FitsSigned w64) m.size

-- a mapping for domains of the rank
pub record IsMapping (rank : ℕ) (m : LayoutMap) : Type 0 where
  pub valid : is_layout rank m ≡ true
  pub in_limits : IsInLimits rank m

-- a mapping for domains of some rank
abbrev pub IsLayout : LayoutMap → Type 0
IsLayout whole = ⊤
IsLayout (block m) = IsMapping (length m.grid) (block m)
IsLayout (cyclic m) = IsMapping (length m.grid) (cyclic m)
IsLayout (block_cyclic m) = IsMapping (length m.grid) (block_cyclic m)

-- ---- on which locale

-- the locale of an index; none of a text, or of an index of another rank
abbrev pub locale_in : LayoutMap → Index → Option ℕ
locale_in m (Point is) = if is_of_rank (length is) m then Some (locale_of m is) else None
locale_in m (Text t) = None

-- ---- a mapping by its rank, and back

abbrev pub map_of : LayoutByRank → LayoutMap
map_of Whole = whole
map_of (Rank1 m) = m
map_of (Rank2 m) = m
map_of (Rank3 m) = m

-- a mapping for domains of the rank and no other
abbrev pub IsDealt : ℕ → LayoutMap → Type 0
IsDealt rank whole = ⊥
IsDealt rank (block m) = (length m.grid ≡ rank) × IsMapping rank (block m)
IsDealt rank (cyclic m) = (length m.grid ≡ rank) × IsMapping rank (cyclic m)
IsDealt rank (block_cyclic m) = (length m.grid ≡ rank) × IsMapping rank (block_cyclic m)

abbrev pub IsLaid : LayoutByRank → Type 0
IsLaid Whole = ⊤
IsLaid (Rank1 m) = IsDealt 1 m
IsLaid (Rank2 m) = IsDealt 2 m
IsLaid (Rank3 m) = IsDealt 3 m

abbrev pub by_rank : ℕ → LayoutMap → LayoutByRank
by_rank rank m = if nat_eq rank 1 then Rank1 m else if nat_eq rank 2 then Rank2 m else Rank3 m

abbrev pub of_map : LayoutMap → LayoutByRank
of_map whole = Whole
of_map (block m) = by_rank (length m.grid) (block m)
of_map (cyclic m) = by_rank (length m.grid) (cyclic m)
of_map (block_cyclic m) = by_rank (length m.grid) (block_cyclic m)

dealt : (rank : ℕ) (m : LayoutMap) → IsDealt rank m → of_map m ≡ by_rank rank m
dealt rank whole h = absurd h
dealt rank (block m) h = rw h.0 refl
dealt rank (cyclic m) h = rw h.0 refl
dealt rank (block_cyclic m) h = rw h.0 refl

-- the mapping comes back from what is seen of it
pub of_map-map_of : (l : LayoutByRank) → IsLaid l → of_map (map_of l) ≡ l
of_map-map_of Whole h = refl
of_map-map_of (Rank1 m) h = dealt 1 m h
of_map-map_of (Rank2 m) h = dealt 2 m h
of_map-map_of (Rank3 m) h = dealt 3 m h
