use Rattle.std.proofs.Common.{◌≡◌, ◌≤◌, ◌+◌, min, drop}
use Rattle.wb_lines.specs.Turns.{cost_limit}
use Rattle.wb_seats.specs.Costs.{commands_cost}
use Rattle.wb_seats.proofs.cost.cost_of_commands.Given as goal

-- what is left, beside what was counted
abbrev pub invariant-loop-command : goal.invariant-loop-command
invariant-loop-command l = record {
  counted : min cost_limit (l.cost + commands_cost (drop l.command-index l.commands)) ≡ min cost_limit (commands_cost l.commands);
  within : l.cost ≤ cost_limit;
}
