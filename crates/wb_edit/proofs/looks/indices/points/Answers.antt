use Rattle.std.proofs.lemmas.Result.{err_from_is_err_and}
use Rattle.wb_cells.specs.declared.cells.cell.Cell.TheVariants.{Shape}
use Rattle.wb_edit.specs.Trees.{read}
use Rattle.wb_edit.specs.Looks.{indices_of, ranges_in}
use Rattle.wb_edit.proofs.Trees.{halts, then_shown}
use Rattle.wb_edit.proofs.looks.indices.points.Goals as goal

pub returns-in_err-shape : goal.returns-in_err-shape
returns-in_err-shape c =
    let p = err_from_is_err_and c.from_residual.result c.from_residual.ensures.1 in
    rw (p.1, p.2) (record {
      looks = halts (read (Shape c.args.domain)) c.args.book.now.cells c.args.footprint.now c.read.new.footprint (λ v next. next (indices_of (ranges_in v)))
          c.in_err-shape.field-0.0 c.in_err-shape.ensures;
      once = tt;
    })

pub returns-clause-looks : goal.returns-clause-looks
returns-clause-looks c =
    rw (c.indices_of.ensures.same, c.ranges_in.ensures) (then_shown (read (Shape c.args.domain)) c.args.book.now.cells c.args.footprint.now
    c.read.new.footprint (λ v. indices_of (ranges_in v)) c.in_ok-shape.shape c.in_ok-shape.ensures)
