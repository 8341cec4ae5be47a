use Rattle.wb_log.proofs.Entered.{not_0}
use Rattle.std.proofs.Common.{Some, ◌+◌}
use Rattle.wb_footprints.specs.Footprints.{with_footprint}
use Rattle.wb_log.proofs.index.in_force.InForce.back_in_force.Goals as goal

pub returns-then-is_err : goal.returns-then-is_err
returns-then-is_err c = λ count footprints f h. c.new.ensures count (with_footprint footprints (c.args.at + 1) (Some f))
    (not_0 c.args.at footprints (Some f) h.from_1)
