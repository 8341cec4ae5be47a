use Rattle.std.proofs.Common.{◌≡◌, ◌≤◌, drop, length}
use Rattle.serde_json.specs.View.{items_view}
use Rattle.wb_requests.specs.Explained.{commands_explained}
use Rattle.wb_requests.proofs.explaining.commands.commands_explained.Given as goal

abbrev pub invariant-loop-left : goal.invariant-loop-left
invariant-loop-left l = record {
  told : l.wrong ≡ commands_explained l.left (items_view (drop l.left l.items));
  within : l.left ≤ length l.items;
}

abbrev pub decreases-loop-left : goal.decreases-loop-left
decreases-loop-left l = l.left
