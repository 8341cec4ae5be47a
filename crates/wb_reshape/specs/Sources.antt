-- Which indices and ranges the sources of a domain's new value make (Chapel Language Specification, Domains).
use Rattle.std.specs.Prelude.{Bool, true, false, not, ◌&&◌, ◌||◌, ℤ, List, [], ◌∷◌, ◌++◌}
use Rattle.std.specs.List.{filter}
use Rattle.std.specs.declared.cmp.Ordering.{Ordering}
use Rattle.std.specs.declared.cmp.Ordering.TheVariants.{Less, Equal, Greater}
use Rattle.wb_rect.specs.Offsets.{translated, expanded}
use Rattle.wb_rect.specs.ShiftTests.{can_shift}
use Rattle.wb_cells.specs.declared.values.index.Index.{Index}
use Rattle.wb_cells.specs.Cells.{index_cmp}
use Rattle.wb_cells.specs.Shapes.{Range}
use Rattle.wb_cells.specs.WellFormed.{has}
use Rattle.wb_reshape.specs.declared.new_indices.Displacement.{Displacement}
use Rattle.wb_reshape.specs.declared.new_indices.Displacement.TheVariants.{Translate, Expand}
use Rattle.wb_reshape.specs.declared.new_indices.SetOperation.{SetOperation}
use Rattle.wb_reshape.specs.declared.new_indices.SetOperation.TheVariants.{Union, Intersection, Difference, SymmetricDifference}
use Rattle.wb_reshape.specs.Resized.{without}

-- the indices of xs that are among ys, in their order
abbrev pub among : (ys xs : List Index) → List Index
among ys xs = filter (has ys) xs

-- what two sets make (Chapel Language Specification, Domains: set operations on associative domains)
abbrev pub combined : SetOperation → (given old : List Index) → List Index
combined Union given old = old ++ without old given
combined Intersection given old = among given old
combined Difference given old = without given old
combined SymmetricDifference given old = without given old ++ without old given

-- whether a set operation keeps an index, by whether the given ones and the old ones have it
abbrev pub keeps : SetOperation → (given old : Bool) → Bool
keeps Union given old = given || old
keeps Intersection given old = given && old
keeps Difference given old = old && not given
keeps SymmetricDifference given old = (old && not given) || (given && not old)

-- ranges, displaced by the offset at each place (Chapel Language Specification, Domains: translate, expand)
abbrev pub displaced : Displacement → (offsets : List ℤ) → List Range → List Range
displaced Translate offsets ranges = translated offsets ranges
displaced Expand offsets ranges = expanded offsets ranges

-- whether these are within the limits
abbrev pub can_displace : Displacement → (offsets : List ℤ) → List Range → Bool
can_displace Translate offsets ranges = can_shift false offsets ranges
can_displace Expand offsets ranges = can_shift true offsets ranges

-- of an index and one that stands first, by how they compare: both, one where they are equal, or the second before the rest
abbrev pub placed : Ordering → Index → Index → (js rest : List Index) → List Index
placed Less i j js rest = i ∷ j ∷ js
placed Equal i j js rest = j ∷ js
placed Greater i j js rest = j ∷ rest

-- one more index among ascending ones, at its place
abbrev pub inserted : Index → List Index → List Index
inserted i [] = i ∷ []
inserted i (j ∷ js) = placed (index_cmp i j) i j js (inserted i js)

-- the indices of a list in ascending order, each once
abbrev pub ascending : List Index → List Index
ascending [] = []
ascending (i ∷ is) = inserted i (ascending is)
