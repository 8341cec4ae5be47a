use Rattle.wb_edit.proofs.Trees.{gives_read}
use Rattle.wb_edit.proofs.looks.one_cell.read.Goals as goal

pub returns-in-Ok : goal.returns-in-Ok
returns-in-Ok c =
    let s = c.args.book.now.cells in
    rw (c.in-Ok.ensures.ok, c.new.ensures) (gives_read s c.args.cell.now c.get.result c.args.footprint.now c.get.ensures)
