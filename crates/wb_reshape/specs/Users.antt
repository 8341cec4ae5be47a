-- What is bound to a domain: the arrays over it, and the sparse domains in it.
use Rattle.std.specs.Prelude.{List, Option, Some, None, option_map}
use Rattle.std.specs.List.{filter_map}
use Rattle.wb_cells.specs.declared.cells.cell.Cell.{Cell}
use Rattle.wb_cells.specs.declared.cells.cell.Cell.TheVariants.{Use}
use Rattle.wb_cells.specs.declared.cells.value.Binding.{Binding}
use Rattle.wb_cells.specs.declared.cells.value.Binding.TheVariants.{Array, Sparse}
use Rattle.wb_cells.specs.declared.cells.value.Value.{Value}
use Rattle.wb_cells.specs.declared.cells.value.Value.TheVariants.{Bound}
use Rattle.wb_cells.specs.Cells.{Name}

-- how an object is bound, as a value says it
abbrev pub binding_in : Value → Option Binding
binding_in (Bound how) = Some how
binding_in v = None

-- the user of a domain that a cell with its value tells of, and how it is bound
abbrev pub user_in : Cell × Value → Option (Name × Binding)
user_in (Use d n, v) = option_map (λ how. (n, how)) (binding_in v)
user_in (c, v) = None

-- the name of a user that is bound so
abbrev pub named : Binding → Name × Binding → Option Name
named Array (n, Array) = Some n
named Array (n, Sparse) = None
named Sparse (n, Array) = None
named Sparse (n, Sparse) = Some n

-- the names of the users that are bound so
abbrev pub bound : Binding → List (Name × Binding) → List Name
bound how users = filter_map (named how) users
