use Rattle.std.proofs.Common.{◌≡◌, Some, None, sym, ap, ◌∙◌}
use Rattle.std.specs.BTreeMap.{BTreeMap}
use Rattle.wb_cells.specs.declared.values.index.Index.TheVariants.{Point}
use Rattle.wb_cells.specs.Cells.{Name}
use Rattle.wb_elements.specs.Entries.{with_all}
use Rattle.wb_book.specs.Kept.{Pieced, array_in}
use Rattle.wb_book.proofs.EntriesSet.{array_written, array_absent}
use Rattle.wb_book.proofs.keep.set_over.Goals as goal

pub returns-in-Some-clause-arrays : goal.returns-in-Some-clause-arrays
returns-in-Some-clause-arrays g c = λ b.
    let xs = g.B.ChangeBlock.entries c.args.block.now in
    let es = c.args.arrays.now.entries in
    let p : Pieced = c.in-Some.elements.now in
    let found : array_in es c.args.array.now ≡ Some p = sym c.in-Some.ensures.value in
    let made : c.write_block.new.elements ≡ (with_all Point p.0 xs, p.1) = λ k. (c.write_block.ensures.elements k, c.write_block.ensures.mapping k) in
    ap (λ fs. array_in fs b) (c.get_mut.follows.holds c.write_block.new.elements).0
    ∙ array_written Point es c.args.array.now b c.write_block.new.elements p xs found made

pub returns-in-None-clause-arrays : goal.returns-in-None-clause-arrays
returns-in-None-clause-arrays g c = λ b.
    let none : array_in c.args.arrays.now.entries c.args.array.now ≡ None = sym c.in-None.ensures.value in
    ap (λ (m : BTreeMap Name Pieced). array_in m.entries b) c.get_mut.follows.holds-at-none
    ∙ array_absent Point c.args.arrays.now.entries c.args.array.now b (g.B.ChangeBlock.entries c.args.block.now) none
