use Rattle.std.proofs.Common.{ℤ, List, length, Err, sym, subst, ◌∙◌}
use Rattle.std.proofs.lemmas.Result.{err_from_is_err_and}
use Rattle.std.specs.List.{zip}
use Rattle.selective_undo.specs.Edit.{write}
use Rattle.wb_cells.specs.declared.cells.kind.Kind.{Kind}
use Rattle.wb_cells.specs.Cells.{Name}
use Rattle.wb_cells.specs.Shapes.{Range, indices}
use Rattle.wb_edit.specs.Commands.{number_cells, put_numbers}
use Rattle.wb_edit.specs.Plans.{Attempts}
use Rattle.wb_edit.specs.Rectangles.{of_rank, over_rectangle, all_elements}
use Rattle.wb_edit.specs.Trees.{Tree}
use Rattle.wb_edit.proofs.Attempts.{goes_on, passes, stops}
use Rattle.wb_edit.proofs.commands.put.plan_numbers.Goals as goal

pub returns-in_err-all_elements : goal.returns-in_err-all_elements
returns-in_err-all_elements c =
    let p = err_from_is_err_and c.from_residual-in_err-all_elements.result c.from_residual-in_err-all_elements.ensures.1 in
    let s = c.args.book.now.cells in
    let a : Name = c.args.array in
    let kind : Kind = c.args.kind in
    let on : List Range = c.ranges-on.result in
    let vs : List ℤ = c.args.numbered.now.1 in
    let why = c.in_err-all_elements.field-0.0 in
    let rs = c.args.footprint.now in
    let us = c.all_elements.new.footprint in
    let last : Tree = write (number_cells a (zip (indices on) vs)) in
    rw (p.1, p.2) (subst (λ (is : List Range). Attempts (put_numbers a kind is vs) s rs (Err why) us) c.ranges-on.ensures (
    goes_on (over_rectangle (length on) kind) s rs rs (λ x. all_elements a (indices on) (λ y. last)) tt (Err why) us
    (passes s rs (of_rank (length on) kind) tt (sym c.over_rectangle.ensures ∙ c.in_ok-over_rectangle.was)) (
    stops (all_elements a (indices on)) s rs us (λ y. last) why c.in_err-all_elements.ensures)))
