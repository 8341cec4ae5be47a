use Rattle.std.proofs.Common.{◌≡◌, take}
use Rattle.wb_layers.specs.Places.{as_changes}
use Rattle.wb_layers.proofs.overlaid.settings.Given as goal

-- the cells so far, as changes
abbrev pub invariant-loop-cell : goal.invariant-loop-cell
invariant-loop-cell l = l.found.items ≡ as_changes (take l.cell-index l.shown)
