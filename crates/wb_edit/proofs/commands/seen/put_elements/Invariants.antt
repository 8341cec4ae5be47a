use Rattle.std.proofs.Common.{◌≡◌, ◌++◌, take}
use Rattle.wb_edit.specs.Commands.{number_cells}
use Rattle.wb_edit.proofs.commands.seen.put_elements.Given as goal

-- the elements so far are there
abbrev pub invariant-loop-e : goal.invariant-loop-e
invariant-loop-e l = l.delta ≡ l.fn.delta ++ number_cells l.array (take l.e-index l.elements)
