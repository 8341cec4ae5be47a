use Rattle.std.proofs.Common.{ap, sym, ◌∙◌}
use Rattle.wb_elements.specs.Entries.{with_one}
use Rattle.wb_elements.specs.Piecewise.Indexed.{indexed}
use Rattle.wb_elements.proofs.WithAll.{with_all-more}
use Rattle.wb_elements.proofs.elements.typed.set_all_in.Goals as goal

pub loop-change-preserved : goal.loop-change-preserved
loop-change-preserved g c =
    let f = g.D.Index.AsIndex.as_index in
    let x = c.change-item.result in
    record {
      elements =
          c.set_near-near.ensures.elements
          ∙ ap (λ es. with_one es (f x.0) x.1) c.loop-change.invariant.elements
          ∙ sym (with_all-more f c.args.changes.now c.loop-change.change-index x (indexed g.D.Index.AsIndex.as_index c.args.pieces.now.0)
          c.loop-change-test.true c.change-item.is);
      mapping = c.set_near-near.ensures.mapping ∙ c.loop-change.invariant.mapping;
      kept = c.set_near-near.ensures.kept;
    }
