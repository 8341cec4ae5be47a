use Rattle.std.proofs.Common.{◌++◌}
use Rattle.std.specs.List.{flat_map}
use Rattle.wb_cells.specs.Readers.{objects}
use Rattle.wb_text.specs.Lines.{object_line}
use Rattle.wb_reading.proofs.compared.behind_lines.Goals as goal

pub returns-in_default-clause-none : goal.returns-in_default-clause-none
returns-in_default-clause-none c =
    λ rest. c.in_default.ensures.none (flat_map (object_line c.args.book.now.cells) (objects c.args.book.now.cells) ++ rest)
