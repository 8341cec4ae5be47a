use Rattle.std.proofs.Common.{◌≡◌, [], drop, Ok}
use Rattle.serde_json.specs.View.{items_view}
use Rattle.wb_requests.specs.Requests.{so_far, commands_after}
use Rattle.wb_requests.proofs.requests.transactions.commands_of.Given as goal

-- what is left, behind what is read so far
abbrev pub invariant-loop-item : goal.invariant-loop-item
invariant-loop-item l =
    commands_after (so_far l.wrong l.commands.items) (items_view (drop l.item-index l.items)) ≡ commands_after (Ok []) (items_view l.items)
