-- The places of lines by their names.
use Rattle.std.specs.Prelude.{◌≡◌, ℕ, List, is_some, option_and_then, slice_get}
use Rattle.std.specs.BTreeMap.{BTreeMap}
use Rattle.std.specs.BTreeMap as tree
use Rattle.std.specs.Cmp.Lexicographic.{slice_cmp}
use Rattle.std.specs.Ordering.{nat_cmp}
use Rattle.wb_cells.specs.Cells.{Name}
use Rattle.wb_text.specs.Said.{Line, first_line_of}

-- by its place, the first line of each name among some of the lines is found, and a name of none of them has no place
pub record Finds (places : BTreeMap Name ℕ) (lines some : List Line) : Type 0 where
  pub line : (n : Name) → option_and_then (slice_get lines) (tree.get (slice_cmp nat_cmp) places n) ≡ first_line_of n some
  pub there : (n : Name) → is_some (tree.get (slice_cmp nat_cmp) places n) ≡ is_some (first_line_of n some)
