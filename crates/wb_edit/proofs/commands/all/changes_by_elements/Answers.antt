use Rattle.std.proofs.Common.{ℤ, List, T, sym, subst}
use Rattle.std.specs.FinMap.{is_sorted}
use Rattle.wb_cells.specs.declared.values.index.Index.{Index}
use Rattle.wb_cells.specs.Cells.{index_cmp}
use Rattle.wb_edit.proofs.Elements.{elements_ascend}
use Rattle.wb_edit.proofs.SideBySide.{kept_ascend}
use Rattle.wb_edit.proofs.commands.all.changes_by_elements.Goals as goal

pub results-requires-clause-ascending : goal.results-requires-clause-ascending
results-requires-clause-ascending c =
    rw c.deref.ensures.value (subst (λ (es : List (Index × ℤ)). T (is_sorted index_cmp es)) (sym c.in-Ok.ensures)
    (elements_ascend c.args.book.now.cells c.args.array))

pub number_changes-requires : goal.number_changes-requires
number_changes-requires c =
    let xs : List (Index × ℤ) = c.deref.result.now in
    let ys : List (Index × ℤ) = c.deref-2.result.now in
    let sorted : T (is_sorted index_cmp xs) = rw c.deref.ensures.value
    (subst (λ (es : List (Index × ℤ)). T (is_sorted index_cmp es)) (sym c.in-Ok.ensures) (elements_ascend c.args.book.now.cells c.args.array)) in
    rw c.deref-3.ensures.value (kept_ascend c.args.how.now xs ys c.in_ok-zs.zs.items sorted c.in_ok-zs.ensures)
