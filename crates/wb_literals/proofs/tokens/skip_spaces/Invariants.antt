use Rattle.std.proofs.Common.{◌≡◌, ◌≤◌, ◌-◌, length, drop}
use Rattle.wb_literals.specs.Tokens.{skip_spaces}
use Rattle.wb_literals.proofs.tokens.skip_spaces.Given as goal

abbrev pub invariant-loop-n : goal.invariant-loop-n
invariant-loop-n l = record { inside : l.n ≤ length l.bytes; so_far : skip_spaces (drop l.n l.bytes) ≡ skip_spaces l.fn.bytes }

abbrev pub decreases-loop-n : goal.decreases-loop-n
decreases-loop-n l = length l.bytes - l.n
