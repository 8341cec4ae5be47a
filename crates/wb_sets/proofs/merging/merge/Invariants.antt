use Rattle.std.proofs.Common.{◌≡◌, ◌≤◌, ◌+◌, ◌-◌, ◌++◌, length, drop}
use Rattle.wb_sets.proofs.Merged.{merged}
use Rattle.wb_sets.proofs.merging.merge.Given as goal

abbrev pub invariant-loop-i : goal.invariant-loop-i
invariant-loop-i g l = record {
  first_end : l.i ≤ length l.xs;
  second_end : l.j ≤ length l.ys;
  all : l.keys.items ++ merged g.K.Ord.cmp l.kept (drop l.i l.xs) (drop l.j l.ys) ≡ merged g.K.Ord.cmp l.kept l.xs l.ys;
}

abbrev pub decreases-loop-i : goal.decreases-loop-i
decreases-loop-i g l = (length l.xs - l.i) + (length l.ys - l.j)
