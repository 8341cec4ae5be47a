-- What lines are made of: names, rectangles and mappings within their limits, indices, and numbers of 64 bits.
use Rattle.std.specs.Prelude.{◌≡◌, true, length, FitsSigned, IfSome}
use Rattle.std.specs.Int.{w64}
use Rattle.std.specs.List.{All}
use Rattle.wb_rect.specs.Product.{IsRectangle}
use Rattle.wb_cells.specs.Kinds.{IsIndex}
use Rattle.wb_cells.specs.Layouts.{IsLayout}
use Rattle.wb_cells.specs.Names.{is_name}
use Rattle.wb_text.specs.Said.{Line, rectangular, sparse, associative, array}

abbrev pub IsMade : Line → Type 0
IsMade (rectangular d rs m) = (is_name d ≡ true) × IsRectangle (length rs) rs × IsLayout m
IsMade (sparse d parent is) = is_name d ≡ true
IsMade (associative d type is) = (is_name d ≡ true) × All IsIndex is
IsMade (array a d xs irv) = (is_name a ≡ true) × All (FitsSigned w64) xs × IfSome irv (FitsSigned w64)
