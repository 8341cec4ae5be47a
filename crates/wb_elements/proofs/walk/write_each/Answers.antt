use Rattle.std.proofs.Common.{◌<◌, length, ap, arith, ◌∙◌}
use Rattle.std.proofs.lemmas.List.{take_all}
use Rattle.wb_cells.specs.declared.values.index.Index.TheVariants.{Point}
use Rattle.wb_elements.specs.Entries.{with_all}
use Rattle.wb_elements.proofs.Blocks.{write_entry}
use Rattle.wb_elements.proofs.walk.write_each.Goals as goal

pub loop-at-preserved : goal.loop-at-preserved
loop-at-preserved g c =
    let es = g.B.ChangeBlock.entries c.args.block.now in
    let low : c.loop-at.at < length es = omega (arith, c.loop-at-test.true, c.many-at-end.ensures) in
    record {
      elements = write_entry es c.loop-at.at c.args.elements.now.0 c.loop-at.elements.0 c.write_entry-near.new.elements.0 low c.loop-at.invariant.elements
          c.write_entry-near.ensures.elements;
      mapping = c.write_entry-near.ensures.mapping ∙ c.loop-at.invariant.mapping;
    }

pub returns-clause-elements : goal.returns-clause-elements
returns-clause-elements g c =
    let es = g.B.ChangeBlock.entries c.args.block.now in
    c.loop-at.invariant.elements ∙ ap (with_all Point c.args.elements.now.0)
    (take_all c.loop-at.at es (omega (arith, c.loop-at-test.false, c.many-at-end.ensures)))

pub returns-clause-mapping : goal.returns-clause-mapping
returns-clause-mapping g c = c.loop-at.invariant.mapping
