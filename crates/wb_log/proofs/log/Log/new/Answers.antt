use Rattle.std.proofs.Common.{rules, [], refl}
use Rattle.wb_log.specs.Kept.{by_number}
use Rattle.wb_log.proofs.log.Log.new.Goals as goal

pub invariant_of-result : goal.invariant_of-result
invariant_of-result c = rw c.new-2.ensures.items (record { shows = search rules; valid = tt; indexed = c.new-3.ensures 0 (by_number []) refl })
