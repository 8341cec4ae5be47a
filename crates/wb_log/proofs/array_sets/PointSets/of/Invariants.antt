use Rattle.std.proofs.Common.{◌≡◌, map, take}
use Rattle.wb_log.specs.Sets.{set_at, set_commands}
use Rattle.wb_log.proofs.array_sets.PointSets.of.Given as goal

-- the commands so far are these sets
abbrev pub invariant-loop-command : goal.invariant-loop-command
invariant-loop-command g l = take l.command-index l.commands ≡ set_commands l.array (map set_at l.sets.items)
