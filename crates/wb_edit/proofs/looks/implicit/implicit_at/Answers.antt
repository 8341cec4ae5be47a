use Rattle.std.proofs.lemmas.Result.{err_from_is_err_and}
use Rattle.wb_edit.specs.Implicit.{parent_of, implicit_inside}
use Rattle.wb_edit.proofs.Trees.{halts, then_looks}
use Rattle.wb_edit.proofs.looks.implicit.implicit_at.Goals as goal

pub returns-in_err-parent : goal.returns-in_err-parent
returns-in_err-parent c =
    let p = err_from_is_err_and c.from_residual.result c.from_residual.ensures.1 in
    rw (p.1, p.2) (halts (parent_of c.args.domain) c.args.book.now.cells c.args.footprint.now c.parent_of.new.footprint
    (λ p. implicit_inside c.args.array p c.args.index) c.in_err-parent.field-0.0 c.in_err-parent.ensures)

pub returns : goal.returns
returns c =
    then_looks (parent_of c.args.domain) c.args.book.now.cells c.args.footprint.now c.parent_of.new.footprint
    (λ p. implicit_inside c.args.array p c.args.index) c.in_ok-parent.parent c.implicit_inside.result c.implicit_inside.new.footprint
    c.in_ok-parent.ensures c.implicit_inside.ensures
