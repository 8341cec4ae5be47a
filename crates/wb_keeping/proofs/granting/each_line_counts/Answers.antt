use Rattle.wb_keeping.proofs.Grants.Counting.{each_line_counts}
use Rattle.wb_keeping.proofs.granting.each_line_counts.Goals as goal

pub returns : goal.returns
returns c = each_line_counts
