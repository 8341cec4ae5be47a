-- What the numbers of a valid command are, that stand at the indices of a rectangle.
use Rattle.std.specs.Prelude.{◌≡◌, length, FitsSigned, ⊤}
use Rattle.std.specs.Int.{w64}
use Rattle.std.specs.List.{All}
use Rattle.wb_range.specs.Domain.{IsListedOnce}
use Rattle.wb_cells.specs.Shapes.{indices}
use Rattle.wb_edit.specs.declared.asked_numbers.AskedNumbers.{AskedNumbers}
use Rattle.wb_edit.specs.declared.asked_numbers.AskedNumbers.TheVariants.{Rectangle, Indices}

-- the numbers that are asked for are of 64 bits, and as many as the indices of their rectangle
abbrev pub AreAskedNumbers : AskedNumbers → Type 0
AreAskedNumbers (Rectangle r) = All (FitsSigned w64) r.1 × (length r.1 ≡ length (indices r.0))
AreAskedNumbers Indices = ⊤

-- the indices of their rectangle are listed once each
abbrev pub AreAskedOnce : AskedNumbers → Type 0
AreAskedOnce (Rectangle r) = IsListedOnce (indices r.0)
AreAskedOnce Indices = ⊤
