-- Well-formed workbooks: which cells are present, and what stands in them.
use Rattle.std.specs.Prelude.{◌≡◌, Bool, true, false, ℤ, pos, List, Option, Some, None, is_some, option_map, ⊤, FitsSigned}
use Rattle.std.specs.Int.{w64}
use Rattle.std.specs.List.{list_any}
use Rattle.std.specs.FinMap.{get}
pub use Rattle.wb_rect.specs.Product.{IsRectangle}
use Rattle.wb_dist.specs.Maps.{LayoutMap}
use Rattle.wb_cells.specs.declared.cells.value.Binding.TheVariants.{Array, Sparse}
use Rattle.wb_cells.specs.declared.cells.cell.Cell.{Cell}
use Rattle.wb_cells.specs.declared.cells.cell.Cell.TheVariants.{Object, Shape, In, Member, Mapping, Use, Implicit, Element}
use Rattle.wb_cells.specs.declared.cells.kind.DomainKind.{DomainKind}
use Rattle.wb_cells.specs.declared.cells.kind.DomainKind.TheVariants.{Rectangular, Sparse, Associative}
use Rattle.wb_cells.specs.declared.cells.kind.Kind.{Kind}
use Rattle.wb_cells.specs.declared.cells.kind.Kind.TheVariants.{Rectangular, Sparse, Associative}
use Rattle.wb_cells.specs.declared.cells.value.Value.{Value}
use Rattle.wb_cells.specs.declared.cells.value.Value.TheVariants.{Domain, Array, Ranges, Mapping, Present, Bound, Number}
use Rattle.wb_cells.specs.declared.values.index.Index.{Index}
use Rattle.wb_cells.specs.Names.{is_name}
use Rattle.wb_cells.specs.Cells.{Name, Cells, is_same_name, is_same_index}
use Rattle.wb_cells.specs.Shapes.{Range, indices}
use Rattle.wb_cells.specs.Kinds.{kind_of, is_key, IsIndex}
use Rattle.wb_cells.specs.Layouts.{IsMapping}

-- ---- what the objects of a workbook are

abbrev pub domain_in : Option Value → Option DomainKind
domain_in (Some (Domain kind)) = Some kind
domain_in _ = None

abbrev pub array_in : Option Value → Option (Name × Kind)
array_in (Some (Array d kind)) = Some (d, kind)
array_in _ = None

abbrev pub ranges_in : Option Value → Option (List Range)
ranges_in (Some (Ranges rs)) = Some rs
ranges_in _ = None

abbrev pub domain_at : Cells → Name → Option DomainKind
domain_at s d = domain_in (get s (Object d))

abbrev pub array_at : Cells → Name → Option (Name × Kind)
array_at s a = array_in (get s (Object a))

-- ---- what may stand in each cell

-- an object: a domain, or an array over a domain of the kind that it says; a sparse domain has a rectangular parent of its rank
abbrev pub IsObject : Cells → Value → Type 0
IsObject s (Domain (Sparse parent rank)) = domain_at s parent ≡ Some (Rectangular rank)
IsObject s (Domain _) = ⊤
IsObject s (Array d kind) = option_map kind_of (domain_at s d) ≡ Some kind
IsObject s _ = ⊥

-- a rectangular domain has its ranges; nothing else has ranges
abbrev pub IsShape : Option DomainKind → Option Value → Type 0
IsShape (Some (Rectangular rank)) v = (rs : List Range) × (v ≡ Some (Ranges rs)) × IsRectangle rank rs
IsShape _ v = v ≡ None

-- a rectangular domain has a mapping for its rank; nothing else has one
abbrev pub HasMapping : Option DomainKind → Option Value → Type 0
HasMapping (Some (Rectangular rank)) v = (m : LayoutMap) × (v ≡ Some (Mapping m)) × IsMapping rank m
HasMapping _ v = v ≡ None

abbrev pub has : List Index → Index → Bool
has is i = list_any (is_same_index i) is

abbrev pub present_if : Bool → Option Value
present_if true = Some Present
present_if false = None

-- an index is in a rectangular domain exactly where it is in the product of the ranges
abbrev pub inside_of : Option (List Range) → Index → Option Value
inside_of (Some rs) i = present_if (has (indices rs) i)
inside_of None i = None

-- an index of a sparse domain is one of its parent, one of an associative domain is of its type; other domains have no members
abbrev pub MayHave : Cells → Option DomainKind → Index → Type 0
MayHave s (Some (Sparse parent rank)) i = get s (In parent i) ≡ Some Present
MayHave s (Some (Associative type)) i = (is_key (Associative type) i ≡ true) × IsIndex i
MayHave s _ i = ⊥

-- a member of a domain
abbrev pub IsMember : Cells → Option DomainKind → Index → Option Value → Type 0
IsMember s kind i None = ⊤
IsMember s kind i (Some v) = (v ≡ Present) × MayHave s kind i

-- what n, by its object, is to the domain d
abbrev pub use_of : (d : Name) → Option Value → Option Value
use_of d (Some (Array e kind)) = elim (is_same_name d e) [ true ↦ Some (Bound Array) | false ↦ None ]
use_of d (Some (Domain (Sparse parent rank))) = elim (is_same_name d parent) [ true ↦ Some (Bound Sparse) | false ↦ None ]
use_of d _ = None

-- a number of 64 bits
abbrev pub IsNumber : Option Value → Type 0
IsNumber v = (z : ℤ) × (v ≡ Some (Number z)) × FitsSigned w64 z

-- an array has an implicit value, 0 unless its domain is sparse; nothing else has one
abbrev pub IsImplicit : Option (Name × Kind) → Option Value → Type 0
IsImplicit (Some (d, Sparse rank)) v = IsNumber v
IsImplicit (Some (d, _)) v = v ≡ Some (Number (pos 0))
IsImplicit None v = v ≡ None

-- the cell that says whether an index is in a domain of a kind
abbrev pub index_cell : Kind → Name → Index → Cell
index_cell (Rectangular rank) d i = In d i
index_cell (Sparse rank) d i = Member d i
index_cell (Associative type) d i = Member d i

-- an array has an element exactly at the indices of its domain
abbrev pub IsElement : Bool → Option Value → Type 0
IsElement true v = IsNumber v
IsElement false v = v ≡ None

abbrev pub is_index_of_array : Cells → Option (Name × Kind) → Index → Bool
is_index_of_array s (Some (d, kind)) i = is_some (get s (index_cell kind d i))
is_index_of_array s None i = false

pub record IsWellFormed (s : Cells) : Type 0 where
  pub names : (n : Name) (v : Value) → get s (Object n) ≡ Some v → is_name n ≡ true
  pub objects : (n : Name) (v : Value) → get s (Object n) ≡ Some v → IsObject s v
  pub shapes : (d : Name) → IsShape (domain_at s d) (get s (Shape d))
  pub insides : (d : Name) (i : Index) → get s (In d i) ≡ inside_of (ranges_in (get s (Shape d))) i
  pub members : (d : Name) (i : Index) → IsMember s (domain_at s d) i (get s (Member d i))
  pub mappings : (d : Name) → HasMapping (domain_at s d) (get s (Mapping d))
  pub uses : (d n : Name) → get s (Use d n) ≡ use_of d (get s (Object n))
  pub implicits : (a : Name) → IsImplicit (array_at s a) (get s (Implicit a))
  pub elements : (a : Name) (i : Index) → IsElement (is_index_of_array s (array_at s a) i) (get s (Element a i))
