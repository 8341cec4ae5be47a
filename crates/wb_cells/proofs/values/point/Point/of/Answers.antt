use Rattle.std.proofs.Common.{pos}
use Rattle.wb_cells.proofs.Packing.{behind, whole}
use Rattle.wb_cells.proofs.values.point.Point.of.Goals as goal

pub invariant_of-result : goal.invariant_of-result
invariant_of-result c =
    rw c.copy_from_slice.ensures.after (c.requires, behind 3 (pos 0) c.args.coordinates.now, whole 3 (pos 0) c.args.coordinates.now c.requires)
