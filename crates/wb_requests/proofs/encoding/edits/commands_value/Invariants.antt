use Rattle.std.proofs.Common.{◌≡◌, map, take}
use Rattle.serde_json.specs.View.{view}
use Rattle.wb_requests.specs.Encoding.Encoded.{command_data}
use Rattle.wb_requests.proofs.encoding.edits.commands_value.Given as goal

abbrev pub invariant-loop-command : goal.invariant-loop-command
invariant-loop-command l = map view l.items.items ≡ map command_data (take l.command-index l.commands)
