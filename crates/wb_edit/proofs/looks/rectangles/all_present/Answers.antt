use Rattle.std.proofs.Common.{sym}
use Rattle.wb_cells.specs.Shapes.{indices}
use Rattle.wb_edit.proofs.Elements.{indices_there}
use Rattle.wb_edit.proofs.looks.rectangles.all_present.Goals as goal

pub returns-then-has_ranges : goal.returns-then-has_ranges
returns-then-has_ranges c =
    sym (indices_there c.args.book.now.cells c.args.array (indices c.args.on.now) (c.has_ranges.ensures c.if-has_ranges.true))
