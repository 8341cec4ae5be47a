-- A workbook in the place of an empty one.
use Rattle.std.specs.Prelude.{ℕ, List}
use Rattle.std.specs.FinMap.{entries}
use Rattle.selective_undo.specs.Edit.{write}
use Rattle.wb_cells.specs.Cells.{Cells, Changes}
use Rattle.wb_edit.specs.Trees.{Tree, ◌>>=◌}
use Rattle.wb_edit.specs.Objects.{no_object}
use Rattle.wb_edit.specs.Writes.{put_each}
use Rattle.wb_text.specs.Texts.Books.{cells_in}

-- what a loaded workbook writes: each of its cells
abbrev pub book_cells : Cells → Changes
book_cells w = put_each (entries w)

-- the workbook of a text: there is no object yet
abbrev pub load : List ℕ → Tree
load text = do
  unit ← no_object
  write (book_cells (cells_in text))
