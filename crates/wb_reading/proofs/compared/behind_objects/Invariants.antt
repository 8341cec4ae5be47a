use Rattle.std.proofs.Common.{◌≡◌, ◌++◌, take}
use Rattle.std.specs.List.{flat_map}
use Rattle.wb_text.specs.Lines.{object_line}
use Rattle.wb_reading.proofs.compared.behind_objects.Given as goal

abbrev pub invariant-loop-name : goal.invariant-loop-name
invariant-loop-name l = l.fn.bytes ≡ flat_map (object_line l.book.cells) (take l.name-index l.names) ++ l.rest
