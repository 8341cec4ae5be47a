-- The end of an index of a domain (Chapel Language Specification, Domains).
use Rattle.std.specs.Prelude.{[], ◌∷◌, Option, Some, None}
use Rattle.selective_undo.specs.Edit.{write}
use Rattle.wb_cells.specs.declared.cells.cell.Cell.TheVariants.{Member}
use Rattle.wb_cells.specs.declared.cells.value.Binding.TheVariants.{Array}
use Rattle.wb_cells.specs.declared.cells.kind.DomainKind.{DomainKind}
use Rattle.wb_cells.specs.declared.cells.value.Value.{Value}
use Rattle.wb_cells.specs.declared.values.index.Index.{Index}
use Rattle.wb_cells.specs.Cells.{Name}
use Rattle.wb_cells.specs.Kinds.{kind_of}
use Rattle.wb_edit.specs.Trees.{Tree, ◌>>=◌, read}
use Rattle.wb_edit.specs.Looks.{domain_named, index_fits}
use Rattle.wb_edit.specs.Users.{bound, uses}
use Rattle.wb_edit.specs.Resizing.{zeros, with_members}
use Rattle.wb_reshape.specs.Resized.{resized_cells}

-- an index leaves a domain, and the arrays over it lose their elements there: it is seen which these are
abbrev pub left : Name → DomainKind → Index → Tree
left d kind i = do
  users ← uses d
  write (resized_cells (kind_of kind) d (zeros (bound Array users)) (i ∷ []) [])

-- the same, where the index is there; else the command ends, accepted, and writes nothing
abbrev pub remove_if : Option Value → Name → DomainKind → Index → Tree
remove_if None d kind i = write []
remove_if (Some v) d kind i = left d kind i

-- the end of an index: the domain is there and sparse or associative, the index is of its rank or type, and it is seen
-- whether the domain has it
abbrev pub remove : Name → Index → Tree
remove d i = do
  kind ← domain_named d
  unit ← with_members kind
  unit ← index_fits (kind_of kind) i
  there ← read (Member d i)
  remove_if there d kind i
