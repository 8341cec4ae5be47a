use Rattle.std.proofs.Common.{rules}
use Rattle.wb_kept_tests.proofs.compact.compact_log.Goals as goal

pub append-requires-in-Err-NotMade : goal.append-requires-in-Err-NotMade
append-requires-in-Err-NotMade c = (c.compact-compacted.ensures.not_made (search rules)).0
