use Rattle.std.proofs.Common.{◌≤◌}
use Rattle.wb_footprints.proofs.Merging.{Steps}
use Rattle.wb_footprints.proofs.places.labels.is_ascending.Given as goal

abbrev pub invariant-loop-at : goal.invariant-loop-at
invariant-loop-at l = record { some : 1 ≤ l.at; steps : Steps l.list l.at }
