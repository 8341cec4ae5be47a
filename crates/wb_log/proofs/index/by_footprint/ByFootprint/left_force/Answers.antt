use Rattle.std.proofs.Common.{◌+◌, None}
use Rattle.wb_footprints.specs.Footprints.{with_footprint}
use Rattle.wb_log.proofs.Entered.{not_0}
use Rattle.wb_log.proofs.index.by_footprint.ByFootprint.left_force.Goals as goal

pub returns-then-is_err : goal.returns-then-is_err
returns-then-is_err c = λ count footprints h had.
    c.new.ensures count (with_footprint footprints (c.args.at + 1) None) (not_0 c.args.at footprints None h.from_1)
