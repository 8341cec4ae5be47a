use Rattle.wb_log.proofs.Entered.{not_0}
use Rattle.std.proofs.Common.{Some, ◌+◌}
use Rattle.wb_footprints.specs.Footprints.{with_footprint}
use Rattle.wb_log.specs.Records.{lent_kept}
use Rattle.wb_log.proofs.index.by_footprint.ByFootprint.back_in_force.Goals as goal

pub returns-then-is_err : goal.returns-then-is_err
returns-then-is_err c = λ count footprints h none. c.new.ensures count
    (with_footprint footprints (c.args.at + 1) (Some (lent_kept c.args.kept.now)))
    (not_0 c.args.at footprints (Some (lent_kept c.args.kept.now)) h.from_1)
