use Rattle.std.proofs.Common.{◌≡◌, length, sym, ◌∙◌}
use Rattle.wb_cells.specs.declared.values.index.Index.TheVariants.{Point}
use Rattle.wb_elements.specs.Piecewise.Changed.{all_set}
use Rattle.wb_elements.specs.Piecewise.Marked.{as_changes}
use Rattle.wb_elements.proofs.Blocks.{fresh_after}
use Rattle.wb_book.proofs.after.after_block.Goals as goal

pub returns-in-Ok-Some-clause-after : goal.returns-in-Ok-Some-clause-after
returns-in-Ok-Some-clause-after g c =
    let xs = g.B.ChangeBlock.entries c.args.block.now in
    let fresh = c.in-Ok-Some.fresh in
    let are : all_set fresh.0 ≡ as_changes Point xs = rw c.in-Ok-Some.field-0-is at c.in-Ok-Some.ensures.elements in
    let none : length c.args.elements.now.0 ≡ 0 = sym c.len.ensures.count ∙ c.if-len-eq0.true in
    (rw c.in-Ok-Some.field-0-is at c.in-Ok-Some.ensures.lies, fresh_after fresh.0 c.args.elements.now.0 xs c.len-ascending.ensures.ascending are none)
