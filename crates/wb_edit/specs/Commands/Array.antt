-- A new array (Chapel Language Specification, Arrays).
use Rattle.std.specs.Prelude.{pos, List, ◌∷◌, map}
use Rattle.selective_undo.specs.Edit.{write}
use Rattle.wb_cells.specs.declared.cells.cell.Cell.TheVariants.{Object, Use, Implicit, Element}
use Rattle.wb_cells.specs.declared.cells.value.Binding.TheVariants.{Array}
use Rattle.wb_cells.specs.declared.cells.kind.Kind.{Kind}
use Rattle.wb_cells.specs.declared.cells.value.Value.TheVariants.{Array, Bound, Number}
use Rattle.wb_cells.specs.declared.values.index.Index.{Index}
use Rattle.wb_cells.specs.Cells.{Name, Changes}
use Rattle.wb_cells.specs.Kinds.{kind_of}
use Rattle.wb_edit.specs.Trees.{Tree, ◌>>=◌}
use Rattle.wb_edit.specs.Looks.{free_name, domain_named, domain_indices}
use Rattle.wb_edit.specs.Writes.{set_to, put_all}

-- what a new array over a domain writes: the array with its domain and that one's kind, that it is bound to the domain,
-- its implicit value 0, and 0 as its element at each index (Chapel Language Specification, Arrays)
abbrev pub new_array_changes : Name → Name → Kind → List Index → Changes
new_array_changes a d kind is =
    set_to (Object a) (Array d kind)
    ∷ set_to (Use d a) (Bound Array)
    ∷ set_to (Implicit a) (Number (pos 0))
    ∷ put_all (map (Element a) is) (Number (pos 0))

-- a new array: its name is free, the domain is there, and it is seen which indices that has
abbrev pub array : Name → Name → Tree
array a d = do
  unit ← free_name a
  kind ← domain_named d
  is ← domain_indices d kind
  write (new_array_changes a d (kind_of kind) is)
