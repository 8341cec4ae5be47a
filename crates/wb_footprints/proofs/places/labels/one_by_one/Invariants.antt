use Rattle.std.proofs.Common.{◌≡◌, take}
use Rattle.wb_footprints.proofs.places.labels.one_by_one.Given as goal

abbrev pub invariant-loop-at : goal.invariant-loop-at
invariant-loop-at l = l.labels.items ≡ take l.at l.list
