use Rattle.std.proofs.Common.{rules, w64, ℤ, cond, Some, sym, ap, ◌∙◌}
use Rattle.std.proofs.lemmas.Int.{to_z-of_z}
use Rattle.wb_cells.specs.declared.values.index.Index.{Index}
use Rattle.wb_cells.specs.Cells.{is_same_index}
use Rattle.wb_elements.specs.Piecewise.Marked.{marked_at}
use Rattle.wb_elements.proofs.Piecewise.Changed.{set_more}
use Rattle.wb_elements.proofs.made.mark_old.Goals as goal

pub loop-index-preserved : goal.loop-index-preserved
loop-index-preserved g c =
    let f = g.I.AsIndex.as_index in
    let x : Index × ℤ = c.loop-index-item.result in
    record {
      elements = λ i here.
          c.in_ok-mark_one.ensures.elements i here
          ∙ ap (λ (z : ℤ). cond (is_same_index i x.0) (Some z) (marked_at f c.loop-index.marks.items i)) (to_z-of_z w64 x.1 (search rules))
          ∙ ap (cond (is_same_index i x.0) (Some x.1)) (c.loop-index.invariant.elements i here)
          ∙ sym (set_more c.args.old.now c.loop-index.index-index x (marked_at f c.args.marks.now.items i) i c.loop-index-test.true
          c.loop-index-item.is);
      kept = c.in_ok-mark_one.ensures.kept;
    }
