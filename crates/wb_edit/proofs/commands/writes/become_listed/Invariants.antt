use Rattle.std.proofs.Common.{◌≡◌, ◌++◌, map, take}
use Rattle.wb_cells.specs.Runs.{cell_of}
use Rattle.wb_edit.specs.Changed.{set_all}
use Rattle.wb_edit.proofs.commands.writes.become_listed.Given as goal

-- the cells of the indices so far are there
abbrev pub invariant-loop-p : goal.invariant-loop-p
invariant-loop-p l = l.delta ≡ l.fn.delta ++ set_all (map (cell_of l.row) (take l.p l.listed)) l.value
