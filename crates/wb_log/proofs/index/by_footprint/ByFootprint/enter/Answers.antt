use Rattle.std.proofs.Common.{◌+◌, arith}
use Rattle.wb_footprints.specs.Footprints.{with_footprint}
use Rattle.wb_log.specs.Indexed.{up_to}
use Rattle.wb_log.specs.Kept.{kept_in}
use Rattle.wb_log.proofs.Entered.{none_next, next_entered}
use Rattle.wb_log.proofs.Lists.{index_like}
use Rattle.wb_log.proofs.index.by_footprint.ByFootprint.enter.Goals as goal

pub returns-in-Ok-clause-ok : goal.returns-in-Ok-clause-ok
returns-in-Ok-clause-ok c = λ count footprints h low is.
    let e = c.args.self.now.entered in
    let o = kept_in c.args.entry.now in
    record {
      from_1 = h.from_1;
      within = omega (arith, low);
      index = index_like c.add_entry.new.index (with_footprint (up_to e footprints) (e + 1) o) (up_to (e + 1) footprints)
          (λ n. next_entered e footprints o n is) (c.in-Ok.ensures.ok (up_to e footprints) h.index (none_next e footprints));
    }
