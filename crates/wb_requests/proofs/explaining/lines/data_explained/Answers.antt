use Rattle.std.proofs.Common.{◌∙◌, sym}
use Rattle.serde_json.specs.View.{view}
use Rattle.wb_requests.proofs.Told.{named_told}
use Rattle.wb_requests.proofs.explaining.lines.data_explained.Goals as goal

pub returns-in-Some : goal.returns-in-Some
returns-in-Some c =
    named_told (view c.args.value.now) c.in-Some.op.now c.op_named.result (sym c.is_object.ensures ∙ c.if-not-is_object.false) c.in-Some.ensures c.op_named.ensures
