use Rattle.std.proofs.Common.{◌++◌, ap, arith, ◌∙◌}
use Rattle.std.proofs.lemmas.List.{take_all}
use Rattle.wb_cells.specs.declared.values.index.Index.TheVariants.{Point}
use Rattle.wb_elements.specs.Piecewise.Marked.{as_changes}
use Rattle.wb_elements.proofs.Blocks.{many_changes}
use Rattle.wb_elements.proofs.walk.list_block.Goals as goal

pub returns : goal.returns
returns g c =
    let es = g.B.ChangeBlock.entries c.args.block.now in
    c.loop-at.invariant ∙ ap (λ ys. c.args.list.now.items ++ ys)
    (take_all c.loop-at.at (as_changes Point es) (omega (arith, c.loop-at-test.false, c.many-at-end.ensures, many_changes es)))
