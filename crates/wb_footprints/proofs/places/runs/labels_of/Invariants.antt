use Rattle.std.proofs.Common.{◌≡◌, map, take}
use Rattle.wb_footprints.proofs.places.runs.labels_of.Given as goal

abbrev pub invariant-loop-at : goal.invariant-loop-at
invariant-loop-at l = l.list ≡ take l.at (map (λ e. e.0) l.changes.1)
