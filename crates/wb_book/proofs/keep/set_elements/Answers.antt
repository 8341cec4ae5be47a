use Rattle.std.proofs.Common.{◌≡◌, Some, None, sym, ap, ◌∙◌}
use Rattle.std.specs.BTreeMap.{BTreeMap}
use Rattle.wb_cells.specs.Cells.{Name}
use Rattle.wb_elements.specs.Entries.{with_all}
use Rattle.wb_book.specs.Kept.{Pieced, array_in}
use Rattle.wb_book.proofs.EntriesSet.{array_written, array_absent}
use Rattle.wb_book.proofs.keep.set_elements.Goals as goal

pub returns-in-Some-clause-arrays : goal.returns-in-Some-clause-arrays
returns-in-Some-clause-arrays g c = λ b.
    let f = g.I.AsIndex.as_index in
    let es = c.args.arrays.now.entries in
    let p : Pieced = c.in-Some.elements.now in
    let found : array_in es c.args.array.now ≡ Some p = sym c.in-Some.ensures.value in
    let made : c.set_all.new.elements ≡ (with_all f p.0 c.args.changes.now, p.1) = λ k. (c.set_all.ensures.elements k, c.set_all.ensures.mapping k) in
    ap (λ fs. array_in fs b) (c.get_mut.follows.holds c.set_all.new.elements).0
    ∙ array_written f es c.args.array.now b c.set_all.new.elements p c.args.changes.now found made

pub returns-in-None-clause-arrays : goal.returns-in-None-clause-arrays
returns-in-None-clause-arrays g c = λ b.
    let none : array_in c.args.arrays.now.entries c.args.array.now ≡ None = sym c.in-None.ensures.value in
    ap (λ (m : BTreeMap Name Pieced). array_in m.entries b) c.get_mut.follows.holds-at-none
    ∙ array_absent g.I.AsIndex.as_index c.args.arrays.now.entries c.args.array.now b c.args.changes.now none
