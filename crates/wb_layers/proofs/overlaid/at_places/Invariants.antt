use Rattle.std.proofs.Common.{◌≡◌, map, take}
use Rattle.wb_layers.specs.Places.{change_at}
use Rattle.wb_layers.proofs.overlaid.at_places.Given as goal

-- the changes so far
abbrev pub invariant-loop-place : goal.invariant-loop-place
invariant-loop-place l = l.found.items ≡ map (change_at l.changes) (take l.place-index l.places)
