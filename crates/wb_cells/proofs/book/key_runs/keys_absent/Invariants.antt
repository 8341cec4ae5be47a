use Rattle.std.proofs.Common.{◌≡◌, None, map, take}
use Rattle.wb_cells.proofs.book.key_runs.keys_absent.Given as goal

abbrev pub invariant-loop-key : goal.invariant-loop-key
invariant-loop-key g l = l.found.items ≡ map (λ e. (e.0, None)) (take l.key-index l.changes)
