use Rattle.std.proofs.lemmas.Result.{err_from_is_err_and}
use Rattle.wb_edit.specs.Implicit.{is_in_domain, implicit_value}
use Rattle.wb_edit.proofs.Trees.{halts, then_looks}
use Rattle.wb_edit.proofs.looks.implicit.implicit_inside.Goals as goal

pub returns-in_err-is_in_domain : goal.returns-in_err-is_in_domain
returns-in_err-is_in_domain c =
    let p = err_from_is_err_and c.from_residual.result c.from_residual.ensures.1 in
    rw (p.1, p.2) (halts (is_in_domain c.args.parent c.args.index) c.args.book.now.cells c.args.footprint.now c.is_in_domain.new.footprint
    (λ x. implicit_value c.args.array) c.in_err-is_in_domain.field-0.0 c.in_err-is_in_domain.ensures)

pub returns : goal.returns
returns c =
    then_looks (is_in_domain c.args.parent c.args.index) c.args.book.now.cells c.args.footprint.now c.is_in_domain.new.footprint
    (λ x. implicit_value c.args.array) tt c.implicit_value.result c.implicit_value.new.footprint c.in_ok-is_in_domain.ensures c.implicit_value.ensures
