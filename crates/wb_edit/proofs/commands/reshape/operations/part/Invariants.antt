use Rattle.std.proofs.Common.{◌≡◌, take}
use Rattle.wb_cells.specs.Readers.{members}
use Rattle.wb_reshape.specs.Resized.{without}
use Rattle.wb_reshape.specs.Sources.{among}
use Rattle.wb_edit.proofs.commands.reshape.operations.part.Given as goal

-- those of the indices so far
abbrev pub invariant-loop-index : goal.invariant-loop-index
invariant-loop-index l = record {
  inside : l.inside.items ≡ among (members l.book.cells l.domain) (take l.index-index l.given);
  outside : l.outside.items ≡ without (members l.book.cells l.domain) (take l.index-index l.given);
}
