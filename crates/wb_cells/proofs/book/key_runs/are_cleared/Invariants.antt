use Rattle.std.proofs.Common.{◌≡◌, None, map, drop}
use Rattle.wb_cells.proofs.book.key_runs.are_cleared.Given as goal

-- the changes clear all where those that are left clear what the walk has left
abbrev pub invariant-loop-key : goal.invariant-loop-key
invariant-loop-key g l = drop l.key-index l.changes ≡ map (λ k. (k, None)) l.left → l.changes ≡ map (λ k. (k, None)) l.keys.keys
