use Rattle.std.proofs.Common.{◌∙◌, sym}
use Rattle.serde_json.specs.View.{view}
use Rattle.wb_requests.proofs.Told.{named_command_told}
use Rattle.wb_requests.proofs.explaining.commands.command_explained.Goals as goal

pub returns-in-Some : goal.returns-in-Some
returns-in-Some c =
    named_command_told (view c.args.value.now) c.in-Some.op.now c.command_named.result (sym c.is_object.ensures ∙ c.if-not-is_object.false) c.in-Some.ensures c.command_named.ensures
