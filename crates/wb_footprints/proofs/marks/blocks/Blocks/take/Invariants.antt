use Rattle.std.proofs.Common.{◌≡◌, ℕ, false, ◌==◌, ◌-◌, length, take}
use Rattle.wb_cells.specs.declared.values.index.Index.{Index}
use Rattle.wb_footprints.specs.Blocks.{in_blocks}
use Rattle.wb_footprints.proofs.marks.blocks.Blocks.take.Given as goal

abbrev pub invariant-loop-place : goal.invariant-loop-place
invariant-loop-place l = record {
  others : (p : Index) (n : ℕ) → (l.number == n) ≡ false → in_blocks l.self.list.items p n ≡ in_blocks l.initial.self.list.items p n;
  gone : (p : Index) → in_blocks (take l.place l.self.list.items) p l.number ≡ false;
}

abbrev pub decreases-loop-place : goal.decreases-loop-place
decreases-loop-place l = length l.self.list.items - l.place
