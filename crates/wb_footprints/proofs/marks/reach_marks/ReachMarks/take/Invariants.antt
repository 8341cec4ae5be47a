use Rattle.std.proofs.Common.{◌≡◌, ℕ, ◌<◌, ◌≤◌, ◌-◌, ◌^◌, false, ◌==◌}
use Rattle.std.specs.Ordering.{nat_cmp}
use Rattle.wb_footprints.specs.Groups.{in_groups}
use Rattle.wb_footprints.specs.Marks.{marked}
use Rattle.wb_cells.specs.declared.values.index.Index.{Index}
use Rattle.wb_footprints.proofs.marks.reach_marks.ReachMarks.take.Given as goal

abbrev pub invariant-loop-key : goal.invariant-loop-key
invariant-loop-key l = record {
  others : (p : Index) (n : ℕ) → (l.number == n) ≡ false → in_groups l.self.groups.entries p n ≡ in_groups l.initial.self.groups.entries p n;
  gone : (k : ℕ) → 0 < k → k ≤ l.from → marked nat_cmp l.self.homes l.number k ≡ false;
}

abbrev pub decreases-loop-key : goal.decreases-loop-key
decreases-loop-key l = 2 ^ 64 - l.from
