use Rattle.std.proofs.Common.{◌≡◌, true≢false, IsSome, sym, ap, subst, ◌∙◌}
use Rattle.std.proofs.lemmas.Result.{on_ok_weaker}
use Rattle.wb_cells.specs.declared.cells.cell.Cell.TheVariants.{Object}
use Rattle.wb_cells.specs.Cells.{Name}
use Rattle.wb_book.specs.Joined.{stored_in}
use Rattle.wb_book.specs.After.{is_array}
use Rattle.wb_book.specs.Kept.{array_in}
use Rattle.wb_book.proofs.Grown.{at_object}
use Rattle.wb_book.proofs.Written.{one_name}
use Rattle.wb_book.proofs.change.put_new_one.Goals as goal

pub returns-then-is_array-clause-others : goal.returns-then-is_array-clause-others
returns-then-is_array-clause-others c = λ b other.
    c.put_empty.ensures.others b (sym (at_object c.args.change.now.cell c.in-Object.name b (sym c.as_cell.ensures ∙ c.in-Object.is)) ∙ other)

pub returns-then-is_array-clause-there : goal.returns-then-is_array-clause-there
returns-then-is_array-clause-there c =
    on_ok_weaker c.put_empty.result
    (λ there b e array.
    subst (λ (n : Name). IsSome (array_in c.put_empty.new.arrays.entries n))
    (one_name c.in-Object.name b (sym (at_object c.args.change.now.cell c.in-Object.name b (sym c.as_cell.ensures ∙ c.in-Object.is)) ∙ e)) there)
    c.put_empty.ensures.there

pub returns-else-is_array-clause-there : goal.returns-else-is_array-clause-there
returns-else-is_array-clause-there c = λ b e array.
    let same : c.in-Object.name ≡ b = one_name c.in-Object.name b
    (sym (at_object c.args.change.now.cell c.in-Object.name b (sym c.as_cell.ensures ∙ c.in-Object.is)) ∙ e) in
    absurd (true≢false (sym array ∙ ap (λ (n : Name). is_array (stored_in c.args.cells.now.entries (Object n))) (sym same) ∙ sym c.is_array.ensures
    ∙ c.if-is_array.false))
