use Rattle.std.proofs.Common.{◌≡◌, ◌++◌, None, map}
use Rattle.wb_cells.proofs.book.key_runs.clearing_keys.Given as goal

-- the changes so far and those of the keys that are left
abbrev pub invariant-loop-key : goal.invariant-loop-key
invariant-loop-key g l = l.found.items ++ map (λ k. (k, None)) l.key-iterator ≡ map (λ k. (k, None)) l.keys.keys
