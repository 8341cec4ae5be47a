use Rattle.std.proofs.lemmas.Result.{err_from_is_err_and}
use Rattle.wb_cells.specs.declared.cells.cell.Cell.TheVariants.{Element}
use Rattle.wb_edit.specs.Implicit.{or_implicit}
use Rattle.wb_edit.specs.Trees.{read}
use Rattle.wb_edit.proofs.Trees.{halts, then_looks}
use Rattle.wb_edit.proofs.looks.implicit.element_or_implicit.Goals as goal

pub returns-in_err-element : goal.returns-in_err-element
returns-in_err-element c =
    let p = err_from_is_err_and c.from_residual.result c.from_residual.ensures.1 in
    let f = c.args.source.now in
    rw (p.1, p.2) (halts (read (Element f.array c.args.index)) c.args.book.now.cells c.args.footprint.now c.read.new.footprint
    (or_implicit f.array f.domain f.kind c.args.index) c.in_err-element.field-0.0 c.in_err-element.ensures)

pub returns : goal.returns
returns c =
    let f = c.args.source.now in
    then_looks (read (Element f.array c.args.index)) c.args.book.now.cells c.args.footprint.now c.read.new.footprint
    (or_implicit f.array f.domain f.kind c.args.index) c.in_ok-element.element c.or_implicit.result c.or_implicit.new.footprint c.in_ok-element.ensures
    c.or_implicit.ensures
