use Rattle.std.proofs.Common.{◌≡◌, true, take}
use Rattle.wb_cells.specs.declared.values.index.Index.{Index}
use Rattle.wb_elements.specs.Piecewise.Changed.{changed_at}
use Rattle.wb_elements.specs.Piecewise.Marked.{marked_at, AllMarked}
use Rattle.wb_elements.proofs.made.mark_all.Given as goal

abbrev pub invariant-loop-index : goal.invariant-loop-index
invariant-loop-index g l =
    let f = g.I.AsIndex.as_index in
    record {
      elements : (i : Index) → g.I.AsIndex.is_of i ≡ true → marked_at f l.marks.items i ≡ changed_at (take l.index-index l.changes) (marked_at f l.fn.marks.items i) i;
      kept : AllMarked f g.I.AsIndex.is_of l.marks.items;
    }
