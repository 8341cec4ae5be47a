-- A new index of a domain (Chapel Language Specification, Domains).
use Rattle.std.specs.Prelude.{[], ◌∷◌, Option, Some, None}
use Rattle.selective_undo.specs.Edit.{write}
use Rattle.wb_cells.specs.declared.cells.cell.Cell.TheVariants.{Member}
use Rattle.wb_cells.specs.declared.cells.kind.DomainKind.{DomainKind}
use Rattle.wb_cells.specs.declared.cells.value.Value.{Value}
use Rattle.wb_cells.specs.declared.values.index.Index.{Index}
use Rattle.wb_cells.specs.Cells.{Name}
use Rattle.wb_cells.specs.Kinds.{kind_of}
use Rattle.wb_edit.specs.Trees.{Tree, ◌>>=◌, read}
use Rattle.wb_edit.specs.Looks.{domain_named, index_fits}
use Rattle.wb_edit.specs.Resizing.{with_members}
use Rattle.wb_edit.specs.Resizing.{resized}

-- a new index, where it isn't there; else the command ends, accepted, and writes nothing
abbrev pub add_unless : Option Value → Name → DomainKind → Index → Tree
add_unless (Some v) d kind i = write []
add_unless None d kind i = resized d kind (i ∷ []) [] (i ∷ [])

-- a new index: the domain is there and sparse or associative, the index is of its rank or type, and it is seen whether the
-- domain has it
abbrev pub add : Name → Index → Tree
add d i = do
  kind ← domain_named d
  unit ← with_members kind
  unit ← index_fits (kind_of kind) i
  there ← read (Member d i)
  add_unless there d kind i
