use Rattle.std.proofs.Common.{◌≡◌, drop}
use Rattle.std.specs.List.{zip}
use Rattle.wb_cells.specs.Cells.{state_of}
use Rattle.wb_text.specs.FromLines.Inserted.{inserted}
use Rattle.wb_text.specs.FromLines.Told.{element_cells}
use Rattle.wb_text.proofs.value.putting.put_numbers.Given as goal

abbrev pub invariant-loop-p : goal.invariant-loop-p
invariant-loop-p l =
    inserted (element_cells l.array (drop l.p (zip l.indices l.elements))) (state_of l.cells)
    ≡ inserted (element_cells l.array (zip l.indices l.elements)) (state_of l.fn.cells)
