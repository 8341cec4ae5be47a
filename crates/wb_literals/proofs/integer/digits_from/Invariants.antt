use Rattle.std.proofs.Common.{◌≡◌, ◌≤◌, ◌+◌, ◌-◌, ◌^◌, length, drop}
use Rattle.wb_literals.specs.Integer.{digits_from, capped}
use Rattle.wb_literals.proofs.integer.digits_from.Given as goal

abbrev pub invariant-loop-n : goal.invariant-loop-n
invariant-loop-n l = record {
  inside : l.n ≤ length l.bytes;
  bound : l.number ≤ 2 ^ 63 + 1;
  so_far : capped (digits_from l.number (drop l.n l.bytes)) ≡ capped (digits_from l.fn.start l.fn.bytes);
}

abbrev pub decreases-loop-n : goal.decreases-loop-n
decreases-loop-n l = length l.bytes - l.n
