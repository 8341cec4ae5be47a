use Rattle.std.proofs.Common.{◌≡◌, ◌++◌, drop}
use Rattle.wb_edit.specs.Writes.{put_each}
use Rattle.wb_edit.proofs.commands.load.changes_of.Given as goal

-- the changes so far and those of the cells that are left
abbrev pub invariant-loop-cell : goal.invariant-loop-cell
invariant-loop-cell l = l.delta ++ put_each (drop l.cell-index l.cell-items) ≡ put_each l.cell-items
