use Rattle.wb_keeping.proofs.Grants.Counting.{edits_in_order}
use Rattle.wb_keeping.proofs.granting.edits_in_order.Goals as goal

pub returns : goal.returns
returns c = edits_in_order
