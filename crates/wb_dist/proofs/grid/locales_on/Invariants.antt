use Rattle.std.proofs.Common.{drop}
use Rattle.wb_dist.proofs.Counting.{IsCounted}
use Rattle.wb_dist.proofs.grid.locales_on.Given as goal

abbrev pub invariant-loop-k : goal.invariant-loop-k
invariant-loop-k l = IsCounted l.grid (drop l.k l.grid) l.locales
