use Rattle.std.proofs.Common.{◌≡◌, map, take}
use Rattle.wb_log.specs.Sets.{set_at, set_commands}
use Rattle.wb_log.proofs.array_sets.PointSets.commands.Given as goal

-- the commands of the sets so far
abbrev pub invariant-loop-entry : goal.invariant-loop-entry
invariant-loop-entry g l = l.commands.items ≡ set_commands l.array (map set_at (take l.entry-index l.sets))
