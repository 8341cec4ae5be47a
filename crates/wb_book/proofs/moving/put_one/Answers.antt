use Rattle.std.proofs.Common.{sym, ap, ◌∙◌}
use Rattle.std.specs.BTreeMap.{BTreeMap}
use Rattle.wb_cells.specs.Cells.{Name}
use Rattle.wb_book.specs.Kept.{Pieced, array_in}
use Rattle.wb_book.proofs.Moved.{replaced, not_replaced}
use Rattle.wb_book.proofs.moving.put_one.Goals as goal

pub returns-in-Some-clause-arrays : goal.returns-in-Some-clause-arrays
returns-in-Some-clause-arrays c = λ b.
    ap (λ es. array_in es b) (c.get_mut.follows.holds c.args.fresh).0
    ∙ replaced c.args.arrays.now.entries c.args.name.now b c.args.fresh c.in-Some.elements.now (sym c.in-Some.ensures.value)

pub returns-in-None-clause-arrays : goal.returns-in-None-clause-arrays
returns-in-None-clause-arrays c = λ b.
    ap (λ (m : BTreeMap Name Pieced). array_in m.entries b) c.get_mut.follows.holds-at-none
    ∙ not_replaced c.args.arrays.now.entries c.args.name.now b c.args.fresh (sym c.in-None.ensures.value)
