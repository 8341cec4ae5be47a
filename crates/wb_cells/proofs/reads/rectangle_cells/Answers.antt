use Rattle.std.proofs.Common.{None, ap, ◌∙◌}
use Rattle.wb_cells.specs.Reads.{patterns_of}
use Rattle.wb_cells.proofs.RectangleRead.{rectangle_read}
use Rattle.wb_cells.proofs.reads.rectangle_cells.Goals as goal

pub returns : goal.returns
returns c =
    ap patterns_of c.in_ok-push_run.ensures.ok ∙ rw (c.new-cells.ensures, c.new-cleared.ensures) (rectangle_read c.args.row.now c.args.ranges.now None)
