use Rattle.std.proofs.Common.{◌≡◌, Option, None, sym, subst}
use Rattle.std.specs.List.Sorted.{IsStrictlySortedBy}
use Rattle.std.specs.Map.{keys_of}
use Rattle.wb_cells.specs.Cells.{index_cmp}
use Rattle.wb_book.specs.Kept.{Pieced, array_in, pairs_of}
use Rattle.wb_elements.proofs.Ascending.{ascending-nothing}
use Rattle.wb_book.proofs.looks.ranges.Goals as goal

pub returns-in-None-clause-ascending : goal.returns-in-None-clause-ascending
returns-in-None-clause-ascending c =
    let none : array_in c.args.arrays.now.entries c.args.array.now ≡ None = sym c.in-None.ensures.value in
    subst (λ (o : Option Pieced). IsStrictlySortedBy index_cmp (keys_of (pairs_of o))) (sym none) (ascending-nothing index_cmp)
