use Rattle.std.proofs.Common.{◌≡◌, ◌++◌, take}
use Rattle.wb_reshape.specs.Resized.{elements_exchanged}
use Rattle.wb_edit.proofs.commands.writes.exchange_elements.Given as goal

-- the elements of the arrays so far are there
abbrev pub invariant-loop-fill : goal.invariant-loop-fill
invariant-loop-fill l = l.delta ≡ l.fn.delta ++ elements_exchanged (take l.fill-index l.fills) l.leaving l.coming
