use Rattle.serde_json.specs.View.{view}
use Rattle.wb_requests.proofs.Lines.{by_other_op}
use Rattle.wb_requests.proofs.requests.reading.by_op.Goals as goal

pub returns-in_default : goal.returns-in_default
returns-in_default c = by_other_op c.args.op.now (view c.args.value.now) c.by_single_op.result c.in_default.not-transaction c.by_single_op.ensures
