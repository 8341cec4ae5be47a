use Rattle.std.proofs.Common.{◌≡◌, Result, Ok, sym, ap, ◌∙◌}
use Rattle.std.specs.FinMap.{get}
use Rattle.wb_cells.specs.declared.cells.cell.Cell.TheVariants.{Object}
use Rattle.wb_cells.specs.declared.cells.kind.Kind.{Kind}
use Rattle.wb_cells.specs.Cells.{Name}
use Rattle.wb_cells.specs.Readers.{elements}
use Rattle.wb_cells.specs.declared.refusal.WhyRefused as why
use Rattle.wb_edit.specs.Looks.{array_kind}
use Rattle.wb_arrays.specs.Reductions.{reduction}
use Rattle.wb_history.specs.Queries.{value_answer}
use Rattle.wb_history.specs.Reductions.{reduce_from}
use Rattle.wb_history.proofs.Reduced.{made_is}
use Rattle.wb_history.proofs.reduction.reduce_answer.Goals as goal

pub returns-in-Ok : goal.returns-in-Ok
returns-in-Ok g c =
    let s = c.args.book.now.cells in
    let a = c.args.array in
    let there : array_kind (get s (Object a)) ≡ Ok c.in-Ok.field-0 = sym (c.in-Ok.ensures ∙ ap array_kind c.get.ensures) in
    c.made_answer.ensures
    ∙ made_is (reduction c.args.op (elements s a)) c.reduce.result c.reduce.ensures.answer
    ∙ sym (ap (λ (k : Result (Name × Kind) why.WhyRefused). value_answer (reduce_from s a c.args.op k)) there)
