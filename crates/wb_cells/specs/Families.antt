-- Where the cells that a pattern names begin.
use Rattle.std.specs.Prelude.{◌≡◌, true, false, ⊤, IsSome}
use Rattle.std.specs.FinMap.{get}
use Rattle.std.specs.Ordering.{is_le}
use Rattle.std.specs.declared.cmp.Ordering.TheVariants.{Less}
use Rattle.wb_cells.specs.declared.cells.cell.Cell.{Cell}
use Rattle.wb_cells.specs.declared.cells.cell.Cell.TheVariants.{Object, Use}
use Rattle.wb_cells.specs.declared.cells.pattern.Pattern.{Pattern}
use Rattle.wb_cells.specs.Names.{is_name}
use Rattle.wb_cells.specs.Cells.{Cells, cell_cmp, matches}

-- what an object or a user is called by is a name
abbrev pub HasName : Cell → Type 0
HasName (Object n) = is_name n ≡ true
HasName (Use d n) = is_name n ≡ true
HasName _ = ⊤

-- the objects and the users among the cells are called by names
abbrev pub AreNamed : Cells → Type 0
AreNamed s = (c : Cell) → IsSome (get s c) → HasName c

-- from the cell c on, the cells that the pattern names stand before all others, and before it stands none of them
pub record Begins (p : Pattern) (c : Cell) : Type 0 where
  pub together : (x y : Cell) → is_le (cell_cmp c x) ≡ true → cell_cmp x y ≡ Less → matches p x ≡ false → matches p y ≡ false
  pub none_before : (x : Cell) → HasName x → is_le (cell_cmp c x) ≡ false → matches p x ≡ false
