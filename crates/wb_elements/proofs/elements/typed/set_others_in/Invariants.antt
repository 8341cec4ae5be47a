use Rattle.std.proofs.Common.{◌≡◌, take}
use Rattle.wb_elements.specs.Entries.{with_all}
use Rattle.wb_elements.specs.Piecewise.Indexed.{indexed, AllOf}
use Rattle.wb_elements.proofs.elements.typed.set_others_in.Given as goal

abbrev pub invariant-loop-change : goal.invariant-loop-change
invariant-loop-change g l = record {
  elements : indexed g.D.Index.AsIndex.as_index l.pieces.0 ≡
      with_all g.I.AsIndex.as_index (indexed g.D.Index.AsIndex.as_index l.fn.pieces.0) (take l.change-index l.changes);
  mapping : l.pieces.1 ≡ l.fn.pieces.1;
  kept : AllOf g.D.Index.AsIndex.as_index g.D.Index.AsIndex.is_of l.pieces.0;
}
