-- A new value of a domain: which indices the domain has then, and what becomes of the arrays over it (Chapel Language
-- Specification, Domains and Arrays).
use Rattle.std.specs.Prelude.{◌≡◌, Bool, false, ◌&&◌, ℤ, List, Option, Some, None, IsSome}
use Rattle.std.specs.FinMap.{get}
use Rattle.wb_arrays.specs.Elements.{value_at, reallocated}
use Rattle.wb_cells.specs.declared.cells.cell.Cell.TheVariants.{Object, Shape, Implicit, Element}
use Rattle.wb_cells.specs.declared.cells.kind.Kind.{Kind}
use Rattle.wb_cells.specs.declared.cells.value.Value.TheVariants.{Number}
use Rattle.wb_cells.specs.declared.values.index.Index.{Index}
use Rattle.wb_cells.specs.Cells.{Name, Cells, index_cmp, is_same_name}
use Rattle.wb_cells.specs.Locales.{is_index_at}
use Rattle.wb_cells.specs.Readers.{elements, listed_at}
use Rattle.wb_cells.specs.Shapes.{Range, indices}
use Rattle.wb_cells.specs.WellFormed.{domain_at, array_at, ranges_in, has}
use Rattle.wb_reshape.specs.declared.new_indices.Displacement.{Displacement}
use Rattle.wb_reshape.specs.declared.new_indices.NewIndices.{NewIndices}
use Rattle.wb_reshape.specs.declared.new_indices.NewIndices.TheVariants.{To, Slice, Displace, Combine}
use Rattle.wb_reshape.specs.declared.operand.Operand.{Operand}
use Rattle.wb_reshape.specs.declared.operand.Operand.TheVariants.{Rectangle, Items, Named}
use Rattle.wb_reshape.specs.Sources.{displaced, keeps}

-- ---- which indices a source gives

-- an index of what is given: of the rectangle, of the set, or of the domain of the name
abbrev pub is_given : Cells → Operand → Index → Bool
is_given s (Rectangle rs) i = has (indices rs) i
is_given s (Items is) i = has is i
is_given s (Named e) i = is_index_at s e i

-- an index of displaced ranges
abbrev pub is_displaced : Displacement → (offsets : List ℤ) → Option (List Range) → Index → Bool
is_displaced how offsets (Some rs) i = has (indices (displaced how offsets rs)) i
is_displaced how offsets None i = false

-- an index that a source gives to the domain d: one of what is given, one that d has of these, one of the ranges of d as they
-- are displaced, or one that a set operation keeps
abbrev pub is_of_source : Cells → (d : Name) → NewIndices → Index → Bool
is_of_source s d (To given) i = is_given s given i
is_of_source s d (Slice given) i = is_index_at s d i && is_given s given i
is_of_source s d (Displace how offsets) i = is_displaced how offsets (ranges_in (get s (Shape d))) i
is_of_source s d (Combine how given) i = keeps how (is_given s given i) (is_index_at s d i)

-- ---- what becomes of the arrays

-- the array a over the domain d is reallocated from s to t: at each index that d has in both its element stays, at each that
-- d has in t alone stands its implicit value, which is 0 unless d is sparse, and there are no others
abbrev pub IsReallocated : (s t : Cells) → (d a : Name) → Type 0
IsReallocated s t d a =
    (old : List Index) × (new : List Index) × (z : ℤ)
    × (listed_at s d ≡ Some old) × (listed_at t d ≡ Some new) × (get s (Implicit a) ≡ Some (Number z))
    × ((i : Index) → value_at index_cmp (elements t a) i ≡ reallocated index_cmp (elements s a) old new z i)

-- From s to t the domain d got the indices that pass the test.
pub record IsReshaped (s t : Cells) (d : Name) (is_new : Index → Bool) : Type 0 where
  pub there : IsSome (domain_at s d)
  -- it has exactly these
  pub indices : (i : Index) → is_index_at t d i ≡ is_new i
  -- each array over it is reallocated
  pub arrays : (a : Name) (kind : Kind) → array_at s a ≡ Some (d, kind) → IsReallocated s t d a
  -- other arrays keep their elements, and all objects are what they were
  pub others : (a e : Name) (kind : Kind) → array_at s a ≡ Some (e, kind) → is_same_name e d ≡ false → (i : Index) →
      get t (Element a i) ≡ get s (Element a i)
  pub objects : (n : Name) → get t (Object n) ≡ get s (Object n)
