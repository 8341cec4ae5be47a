-- Indices of one object.
use Rattle.std.specs.Prelude.{Bool, List}
use Rattle.std.specs.List.{list_any}
use Rattle.wb_cells.specs.declared.values.index.Index.{Index}
use Rattle.wb_cells.specs.Cells.{is_same_index}

-- whether an index is one of some
abbrev pub in_indices : List Index → Index → Bool
in_indices is i = list_any (λ j. is_same_index j i) is
