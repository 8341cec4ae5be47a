-- What a change of a domain's indices writes: which indices are in it, and the elements of the arrays over it
-- (Chapel Language Specification, Domains: assignment, adding and removing indices; Arrays: arrays over a domain that changes).
use Rattle.std.specs.Prelude.{not, ℤ, List, ◌++◌, map}
use Rattle.std.specs.List.{filter, flat_map}
use Rattle.wb_cells.specs.declared.cells.cell.Cell.{Cell}
use Rattle.wb_cells.specs.declared.cells.cell.Cell.TheVariants.{Element}
use Rattle.wb_cells.specs.declared.cells.kind.Kind.{Kind}
use Rattle.wb_cells.specs.declared.cells.value.Value.{Value}
use Rattle.wb_cells.specs.declared.cells.value.Value.TheVariants.{Present, Number}
use Rattle.wb_cells.specs.declared.values.index.Index.{Index}
use Rattle.wb_cells.specs.Cells.{Name, Changes}
use Rattle.wb_cells.specs.WellFormed.{has, index_cell}
use Rattle.wb_reshape.specs.Writes.{put_all, clear_all}

-- the indices of xs that are not among ys, in their order
abbrev pub without : (ys xs : List Index) → List Index
without ys xs = filter (λ i. not (has ys i)) xs

-- of cells that stand at indices, those of the indices that leave become absent, those of the indices that come get the value
abbrev pub exchanged : (Index → Cell) → (leaving coming : List Index) → Value → Changes
exchanged at leaving coming v = clear_all (map at leaving) ++ put_all (map at coming) v

-- the elements of arrays, each array with the number that its new elements are
abbrev pub elements_exchanged : (fills : List (Name × ℤ)) → (leaving coming : List Index) → Changes
elements_exchanged fills leaving coming = flat_map (λ f. exchanged (Element f.0) leaving coming (Number f.1)) fills

-- indices leave a domain of a kind and others come to it, and so do the elements of the arrays over it
abbrev pub resized_cells : Kind → Name → (fills : List (Name × ℤ)) → (leaving coming : List Index) → Changes
resized_cells kind d fills leaving coming = exchanged (index_cell kind d) leaving coming Present ++ elements_exchanged fills leaving coming
