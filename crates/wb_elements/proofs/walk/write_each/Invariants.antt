use Rattle.std.proofs.Common.{◌≡◌, take}
use Rattle.wb_cells.specs.declared.values.index.Index.TheVariants.{Point}
use Rattle.wb_elements.specs.Entries.{with_all}
use Rattle.wb_elements.proofs.walk.write_each.Given as goal

abbrev pub invariant-loop-at : goal.invariant-loop-at
invariant-loop-at g l = record {
  elements : l.elements.0 ≡ with_all Point l.fn.elements.0 (take l.at (g.B.ChangeBlock.entries l.block));
  mapping : l.elements.1 ≡ l.fn.elements.1;
}
