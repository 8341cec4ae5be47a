use Rattle.wb_log.specs.Records.{lent_kept}
use Rattle.wb_log.proofs.index.EditIndex.back_in_force.Goals as goal

pub returns : goal.returns
returns c = λ count footprints h none. record {
  by_footprint = c.back_in_force.ensures count footprints h.by_footprint none;
  in_force =
      c.back_in_force-2.ensures count footprints (lent_kept c.args.kept.now) h.in_force;
}
