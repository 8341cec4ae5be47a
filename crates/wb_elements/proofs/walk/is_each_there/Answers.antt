use Rattle.std.proofs.Common.{◌<◌, length, sym, arith, ◌∙◌}
use Rattle.wb_cells.specs.declared.values.index.Index.TheVariants.{Point}
use Rattle.wb_elements.specs.Entries.{element_at, sets_one}
use Rattle.wb_elements.proofs.Blocks.{fail_entry}
use Rattle.wb_elements.proofs.walk.is_each_there.Goals as goal

pub returns-then-not-sets : goal.returns-then-not-sets
returns-then-not-sets g c =
    let p = sets_one Point (element_at c.args.elements.now.0) in
    let es = g.B.ChangeBlock.entries c.args.block.now in
    let low : c.loop-at.at < length es = omega (arith, c.loop-at-test.true, c.many-at-end.ensures) in
    sym (fail_entry p es c.loop-at.at low (λ e is. sym (c.sets_entry-sets.ensures e is) ∙ c.if-not-sets.true))
