use Rattle.std.proofs.Common.{◌≡◌, ℕ, false, ◌==◌, ◌-◌, length, take}
use Rattle.wb_cells.specs.declared.values.index.Index.{Index}
use Rattle.wb_footprints.specs.Reaches.{in_reaches}
use Rattle.wb_footprints.proofs.marks.block_marks.BlockMarks.take.Given as goal

abbrev pub invariant-loop-place : goal.invariant-loop-place
invariant-loop-place l = record {
  others : (p : Index) (n : ℕ) → (l.number == n) ≡ false → in_reaches l.self.reaches.items p n ≡ in_reaches l.initial.self.reaches.items p n;
  gone : (p : Index) → in_reaches (take l.place l.self.reaches.items) p l.number ≡ false;
}

abbrev pub decreases-loop-place : goal.decreases-loop-place
decreases-loop-place l = length l.self.reaches.items - l.place
