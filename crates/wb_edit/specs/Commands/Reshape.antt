-- A new value of a domain, by its source (Chapel Language Specification, Domains: assignment, slicing, translate, expand, and
-- set operations on associative domains). Each kind of domain has its own sources.
use Rattle.std.specs.Prelude.{ℕ, ℤ, List, length}
use Rattle.selective_undo.specs.Edit.{refuse}
use Rattle.wb_cells.specs.declared.cells.kind.DomainKind.{DomainKind}
use Rattle.wb_cells.specs.declared.cells.kind.DomainKind.TheVariants.{Rectangular, Sparse, Associative}
use Rattle.wb_cells.specs.declared.values.index.Index.{Index}
use Rattle.wb_cells.specs.Cells.{Name}
use Rattle.wb_cells.specs.Kinds.{kind_of}
use Rattle.wb_reshape.specs.declared.operand.Operand.{Operand}
use Rattle.wb_reshape.specs.declared.operand.Operand.TheVariants.{Rectangle, Items, Named}
use Rattle.wb_reshape.specs.declared.new_indices.Displacement.{Displacement}
use Rattle.wb_reshape.specs.declared.new_indices.SetOperation.{SetOperation}
use Rattle.wb_reshape.specs.declared.new_indices.NewIndices.{NewIndices}
use Rattle.wb_reshape.specs.declared.new_indices.NewIndices.TheVariants.{To, Slice, Displace, Combine}
use Rattle.wb_reshape.specs.Resized.{without}
use Rattle.wb_reshape.specs.Sources.{combined}
use Rattle.wb_cells.specs.declared.refusal.WhyRefused.TheVariants.{WrongKind}
use Rattle.wb_edit.specs.Trees.{Tree, ◌>>=◌, judged, plain}
use Rattle.wb_edit.specs.Reshaping.{shape, reshaped}
use Rattle.wb_edit.specs.Resizing.{resized}
use Rattle.wb_edit.specs.Looks.{domain_named, members}
use Rattle.wb_edit.specs.Sources.{same_rank, slice_of, displacement_of, gives_rectangle, ranges_given, gives_set, indices_given}

-- no such source for the domain; a name that is given is tested first
abbrev pub no_source : Operand → Tree
no_source (Rectangle rs) = refuse (plain WrongKind)
no_source (Items is) = refuse (plain WrongKind)
no_source (Named e) = do
  kind ← domain_named e
  refuse (plain WrongKind)

-- ---- rectangular domains

-- what is given takes the place of the ranges: it is a rectangle of the rank
abbrev pub to_rectangle : Name → (rank : ℕ) → Operand → Tree
to_rectangle d rank given = do
  unit ← gives_rectangle rank given
  old ← shape d
  new ← ranges_given given
  reshaped d old new

-- the ranges become what they have in common with those that are given: these are a rectangle of the rank
abbrev pub slice_rectangle : Name → (rank : ℕ) → Operand → Tree
slice_rectangle d rank given = do
  unit ← gives_rectangle rank given
  old ← shape d
  by ← ranges_given given
  new ← judged (slice_of old by)
  reshaped d old new

-- the ranges move by an offset for each dimension
abbrev pub displace_rectangle : Name → (rank : ℕ) → Displacement → (offsets : List ℤ) → Tree
displace_rectangle d rank how offsets = do
  unit ← judged (same_rank rank (length offsets))
  old ← shape d
  new ← judged (displacement_of how offsets old)
  reshaped d old new

abbrev pub reshape_rectangle : Name → (rank : ℕ) → NewIndices → Tree
reshape_rectangle d rank (To given) = to_rectangle d rank given
reshape_rectangle d rank (Slice given) = slice_rectangle d rank given
reshape_rectangle d rank (Displace how offsets) = displace_rectangle d rank how offsets
reshape_rectangle d rank (Combine how given) = no_source given

-- ---- sparse and associative domains

-- a domain of a kind with some indices gets others
abbrev pub with_indices : Name → DomainKind → (old new : List Index) → Tree
with_indices d kind old new = resized d kind new (without new old) (without old new)

-- what is given takes the place of the indices: it is a set for such a domain
abbrev pub to_set : Name → DomainKind → Operand → Tree
to_set d kind given = do
  unit ← gives_set (kind_of kind) given
  old ← members d
  new ← indices_given given
  with_indices d kind old new

-- the indices become what they and those that are given make: these are a set for such a domain
abbrev pub combine_set : Name → DomainKind → SetOperation → Operand → Tree
combine_set d kind how given = do
  unit ← gives_set (kind_of kind) given
  old ← members d
  other ← indices_given given
  with_indices d kind old (combined how other old)

abbrev pub reshape_sparse : Name → DomainKind → NewIndices → Tree
reshape_sparse d kind (To given) = to_set d kind given
reshape_sparse d kind (Slice given) = no_source given
reshape_sparse d kind (Displace how offsets) = refuse (plain WrongKind)
reshape_sparse d kind (Combine how given) = no_source given

abbrev pub reshape_associative : Name → DomainKind → NewIndices → Tree
reshape_associative d kind (To given) = to_set d kind given
reshape_associative d kind (Slice given) = no_source given
reshape_associative d kind (Displace how offsets) = refuse (plain WrongKind)
reshape_associative d kind (Combine how given) = combine_set d kind how given

-- ---- any domain

abbrev pub reshape_kind : Name → DomainKind → NewIndices → Tree
reshape_kind d (Rectangular rank) source = reshape_rectangle d rank source
reshape_kind d (Sparse parent rank) source = reshape_sparse d (Sparse parent rank) source
reshape_kind d (Associative type) source = reshape_associative d (Associative type) source

-- a new value of a domain: the domain is there, and the source is one for its kind
abbrev pub reshape : Name → NewIndices → Tree
reshape d source = do
  kind ← domain_named d
  reshape_kind d kind source
