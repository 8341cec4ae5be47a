use Rattle.std.proofs.Common.{◌≡◌, take}
use Rattle.wb_footprints.proofs.places.labels.listed.Given as goal

abbrev pub invariant-loop-label : goal.invariant-loop-label
invariant-loop-label l = l.list ≡ take l.label-index l.labels
