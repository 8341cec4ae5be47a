use Rattle.std.proofs.Common.{◌≡◌, ap, sym, ◌∙◌}
use Rattle.wb_cells.specs.declared.values.index.Index.TheVariants.{Point}
use Rattle.wb_cells.specs.Shapes.{indices}
use Rattle.wb_elements.specs.Piecewise.Changed.{all_set}
use Rattle.wb_elements.specs.Piecewise.Indexed.{indexed}
use Rattle.wb_elements.specs.Piecewise.Marked.{as_changes}
use Rattle.wb_elements.proofs.Blocks.{block_keys}
use Rattle.wb_elements.proofs.elements.Elements.of_block.Goals as goal

pub invariant_of-result : goal.invariant_of-result
invariant_of-result g c =
    let b = c.args.block.now in
    let es = indexed Point c.in-Ok-Some.pieces.0 in
    let are : all_set es ≡ as_changes Point (g.B.ChangeBlock.entries b) = rw c.in-Ok-Some.field-0-is at c.in-Ok-Some.ensures.elements in
    record {
      kept = rw c.in-Ok-Some.field-0-is at c.in-Ok-Some.ensures.kept;
      ranged = block_keys es (g.B.ChangeBlock.ranges_of b) (g.B.ChangeBlock.entries b) are (c.is_whole.ensures c.if-not-is_whole.false)
          ∙ ap indices (sym c.over-ranges.ensures);
    }

pub invariant_of-result-in-Ok-Some-filled : goal.invariant_of-result-in-Ok-Some-filled
invariant_of-result-in-Ok-Some-filled g c =
    let b = c.args.block.now in
    let es = indexed Point c.in-Ok-Some-filled.pieces.0 in
    let are : all_set es ≡ as_changes Point (g.B.ChangeBlock.entries b) = rw c.in-Ok-Some-filled.field-0-is at c.in-Ok-Some-filled.ensures.elements in
    record {
      kept = rw c.in-Ok-Some-filled.field-0-is at c.in-Ok-Some-filled.ensures.kept;
      ranged = block_keys es (g.B.ChangeBlock.ranges_of b) (g.B.ChangeBlock.entries b) are (c.is_whole.ensures c.if-not-is_whole.false)
          ∙ ap indices (sym c.over-ranges.ensures);
    }

pub invariant_of-result-in-Ok-Some-filled-2 : goal.invariant_of-result-in-Ok-Some-filled-2
invariant_of-result-in-Ok-Some-filled-2 g c =
    let b = c.args.block.now in
    let es = indexed Point c.in-Ok-Some-filled-2.pieces.0 in
    let are : all_set es ≡ as_changes Point (g.B.ChangeBlock.entries b) = rw c.in-Ok-Some-filled-2.field-0-is at c.in-Ok-Some-filled-2.ensures.elements in
    record {
      kept = rw c.in-Ok-Some-filled-2.field-0-is at c.in-Ok-Some-filled-2.ensures.kept;
      ranged = block_keys es (g.B.ChangeBlock.ranges_of b) (g.B.ChangeBlock.entries b) are (c.is_whole.ensures c.if-not-is_whole.false)
          ∙ ap indices (sym c.over-ranges.ensures);
    }
