-- What holds of every change of a domain's indices, of its end, and of what two sets make.
use Rattle.std.specs.Prelude.{◌≡◌, ℕ, ℤ, true, List, ◌∷◌, Some, None, FitsSigned}
use Rattle.std.specs.Int.{w64}
use Rattle.std.specs.List.{Contains, list_any}
use Rattle.std.specs.List.Sorted.{IsStrictlySortedBy}
use Rattle.std.specs.FinMap.{get}
use Rattle.wb_range.specs.Domain.{IsListedOnce}
use Rattle.selective_undo.specs.Changes.{apply}
use Rattle.wb_cells.specs.declared.cells.cell.Cell.TheVariants.{Shape, Member, Use}
use Rattle.wb_cells.specs.declared.cells.kind.DomainKind.TheVariants.{Rectangular, Sparse, Associative}
use Rattle.wb_cells.specs.declared.cells.kind.DomainKind.{DomainKind}
use Rattle.wb_cells.specs.declared.cells.kind.Kind.TheVariants.{Rectangular as OverRectangular}
use Rattle.wb_cells.specs.declared.cells.value.Binding.TheVariants.{Array as BoundArray, Sparse as BoundSparse}
use Rattle.wb_cells.specs.declared.cells.value.Value.TheVariants.{Ranges, Present, Bound}
use Rattle.wb_cells.specs.declared.values.index.Index.{Index}
use Rattle.wb_cells.specs.Cells.{Name, Cells, index_cmp, is_same_name}
use Rattle.wb_cells.specs.Kinds.{kind_of}
use Rattle.wb_cells.specs.Shapes.{Range, indices}
use Rattle.wb_cells.specs.WellFormed.{IsWellFormed, IsRectangle, MayHave, domain_at, has, index_cell}
use Rattle.wb_reshape.specs.declared.new_indices.SetOperation.{SetOperation}
use Rattle.wb_reshape.specs.Writes.{set_to}
use Rattle.wb_reshape.specs.Resized.{without, resized_cells}
use Rattle.wb_reshape.specs.Dropped.{dropped_domain_cells}
use Rattle.wb_reshape.specs.Sources.{combined, keeps, ascending}

-- the arrays over a domain, all of them and no others, each with a number of 64 bits
pub record AreFills (s : Cells) (d : Name) (fills : List (Name × ℤ)) : Type 0 where
  pub all : (a : Name) → get s (Use d a) ≡ Some (Bound BoundArray) → list_any (λ f. is_same_name a f.0) fills ≡ true
  pub only : (a : Name) (v : ℤ) → Contains fills (a, v) → get s (Use d a) ≡ Some (Bound BoundArray)
  pub numbers : (a : Name) (v : ℤ) → Contains fills (a, v) → FitsSigned w64 v

-- no sparse domain in d has an index that is not among is
abbrev pub LosesNone : Cells → (d : Name) → (is : List Index) → Type 0
LosesNone s d is = (e : Name) (i : Index) → get s (Use d e) ≡ Some (Bound BoundSparse) → get s (Member e i) ≡ Some Present → has is i ≡ true

-- New ranges of a rectangular domain leave a well-formed workbook well formed, where no sparse domain in it loses an index.
abbrev pub KeepsRectangles : Type 0
KeepsRectangles =
    (s : Cells) (d : Name) (rank : ℕ) (fills : List (Name × ℤ)) (old new : List Range)
    → IsWellFormed s → domain_at s d ≡ Some (Rectangular rank) → get s (Shape d) ≡ Some (Ranges old)
    → IsRectangle rank new → AreFills s d fills → LosesNone s d (indices new)
    → IsWellFormed (apply (set_to (Shape d) (Ranges new) ∷ resized_cells (OverRectangular rank) d fills (without (indices new) (indices old))
    (without (indices old) (indices new))) s)

-- a domain that has members: a sparse or an associative one
abbrev pub HasMembers : DomainKind → Type 0
HasMembers (Rectangular rank) = ⊥
HasMembers (Sparse parent rank) = Unit {0}
HasMembers (Associative type) = Unit {0}

-- New indices of a sparse or associative domain leave a well-formed workbook well formed, where it may have each that comes.
abbrev pub KeepsSets : Type 0
KeepsSets =
    (s : Cells) (d : Name) (kind : DomainKind) (fills : List (Name × ℤ)) (leaving coming : List Index)
    → IsWellFormed s → domain_at s d ≡ Some kind → HasMembers kind
    → AreFills s d fills → ((i : Index) → Contains coming i → MayHave s (Some kind) i)
    → IsWellFormed (apply (resized_cells (kind_of kind) d fills leaving coming) s)

-- The end of a domain to which nothing is bound leaves a well-formed workbook well formed, where all indices of it are told.
abbrev pub KeepsDrops : Type 0
KeepsDrops =
    (s : Cells) (d : Name) (kind : DomainKind) (is : List Index)
    → IsWellFormed s → domain_at s d ≡ Some kind → ((n : Name) → get s (Use d n) ≡ None)
    → ((i : Index) → get s (index_cell (kind_of kind) d i) ≡ Some Present → has is i ≡ true)
    → IsWellFormed (apply (dropped_domain_cells d kind is) s)

-- What two sets make has each index once, and exactly those that the operation keeps.
abbrev pub CombinesSets : Type 0
CombinesSets =
    (how : SetOperation) (given old : List Index) → IsListedOnce given → IsListedOnce old
    → IsListedOnce (combined how given old) × ((i : Index) → has (combined how given old) i ≡ keeps how (has given i) (has old i))

-- Indices in ascending order are strictly ascending, and the same ones.
abbrev pub SortsIndices : Type 0
SortsIndices = (is : List Index) → IsStrictlySortedBy index_cmp (ascending is) × ((i : Index) → has (ascending is) i ≡ has is i)
