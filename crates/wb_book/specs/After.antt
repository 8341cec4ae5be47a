-- The arrays after changes.
use Rattle.std.specs.Prelude.{◌≡◌, ℕ, ℤ, nat_lt, Bool, true, ◌&&◌, if◌then◌else◌, List, [], ◌∷◌, Option, Some, None, option_and_then, is_some, IsSome}
use Rattle.std.specs.BTreeMap.{is_at}
use Rattle.std.specs.Map.{lookup}
use Rattle.wb_dist.specs.Maps.{LayoutMap, whole}
use Rattle.wb_cells.specs.declared.cells.cell.Cell.{Cell}
use Rattle.wb_cells.specs.declared.cells.cell.Cell.TheVariants.{Object, Mapping}
use Rattle.wb_cells.specs.declared.cells.kind.DomainKind.{DomainKind}
use Rattle.wb_cells.specs.declared.cells.kind.DomainKind.TheVariants.{Rectangular, Sparse, Associative}
use Rattle.wb_cells.specs.declared.cells.kind.KeyType.TheVariants.{Int, Text}
use Rattle.wb_cells.specs.declared.cells.value.Value.{Value}
use Rattle.wb_cells.specs.declared.cells.value.Value.TheVariants.{Array}
use Rattle.wb_cells.specs.declared.values.index.Index.{Index}
use Rattle.wb_cells.specs.Cells.{Name, index_cmp}
use Rattle.wb_cells.specs.Layouts.{is_of_rank}
use Rattle.wb_cells.specs.Locales.{mapping_in}
use Rattle.wb_cells.specs.WellFormed.{domain_in, array_in}
use Rattle.wb_elements.specs.Piecewise.Changed.{changed_at}
use Rattle.wb_elements.specs.Piecewise.Seen.{is_of_form}
use Rattle.wb_book.specs.Groups.{Group}
use Rattle.wb_book.specs.Kept.{Pieced, array_in as kept_in}

-- whether a mapping is for rectangles of one, two or three dimensions, as many as the rank says
abbrev pub is_for : ℕ → LayoutMap → Bool
is_for rank m = nat_lt 0 rank && (nat_lt rank 4 && is_of_rank rank m)

-- a mapping with the rank that it is for
abbrev pub lies_for : ℕ → LayoutMap → Option (LayoutMap × ℕ)
lies_for rank m = if is_for rank m then Some (m, rank) else None

-- how a domain lies, by what stored cells answer
abbrev pub kind_lies : (Cell → Option Value) → Name → Option DomainKind → Option (LayoutMap × ℕ)
kind_lies stored d (Some (Rectangular rank)) = option_and_then (lies_for rank) (mapping_in (stored (Mapping d)))
kind_lies stored d (Some (Sparse parent rank)) = option_and_then (lies_for rank) (mapping_in (stored (Mapping parent)))
kind_lies stored d (Some (Associative Int)) = Some (whole, 1)
kind_lies stored d (Some (Associative Text)) = Some (whole, 0)
kind_lies stored d None = None

abbrev pub domain_lies : (Cell → Option Value) → Name → Option (LayoutMap × ℕ)
domain_lies stored d = kind_lies stored d (domain_in (stored (Object d)))

abbrev pub object_lies : (Cell → Option Value) → Option Value → Option (LayoutMap × ℕ)
object_lies stored (Some (Array d kind)) = domain_lies stored d
object_lies stored _ = None

-- how an array lies
abbrev pub lies_at : (Cell → Option Value) → Name → Option (LayoutMap × ℕ)
lies_at stored a = object_lies stored (stored (Object a))

-- an array that lies so, after the changes of its elements: another one, or the one that was there
abbrev pub IsAfter : Group → LayoutMap × ℕ → Pieced → Option Pieced → Type 0
IsAfter xs l p None = (p.1 ≡ l) × (xs ≡ [])
IsAfter xs l p (Some q) = (q.1 ≡ l) × ((i : Index) → lookup (is_at (index_cmp i)) q.0 ≡ changed_at xs (lookup (is_at (index_cmp i)) p.0) i)

-- elements of an array that lies so stand, after changes of them, at indices of its rank
abbrev pub IsFormed : Group → LayoutMap × ℕ → List (Index × ℤ) → Type 0
IsFormed xs l es = (i : Index) → IsSome (changed_at xs (lookup (is_at (index_cmp i)) es) i) → is_of_form l.1 i ≡ true

-- the same of each array that is named
abbrev pub AreFormed : (Name → Option (LayoutMap × ℕ)) → List (Name × Pieced) → List (Name × Group) → Type 0
AreFormed lies arrays [] = Unit {0}
AreFormed lies arrays (g ∷ gs) =
    ((p : Pieced) (l : LayoutMap × ℕ) → kept_in arrays g.0 ≡ Some p → lies g.0 ≡ Some l → IsFormed g.1 l p.0) × AreFormed lies arrays gs

-- with an array of a name in front, if there is one
abbrev pub with_array : Name → Option Pieced → List (Name × Pieced) → List (Name × Pieced)
with_array a None es = es
with_array a (Some q) es = (a, q) ∷ es

-- those of the arrays that are named and are others after the changes, in their order
abbrev pub AreAfter : (Name → Option (LayoutMap × ℕ)) → List (Name × Pieced) → List (Name × Group) → List (Name × Pieced) → Type 0
AreAfter lies arrays [] built = built ≡ []
AreAfter lies arrays (g ∷ gs) built =
    (o : Option Pieced) × (ys : List (Name × Pieced)) × (built ≡ with_array g.0 o ys)
    × ((p : Pieced) (l : LayoutMap × ℕ) → kept_in arrays g.0 ≡ Some p → lies g.0 ≡ Some l → IsAfter g.1 l p o)
    × AreAfter lies arrays gs ys

-- whether an object is an array
abbrev pub is_array : Option Value → Bool
is_array v = is_some (array_in v)
