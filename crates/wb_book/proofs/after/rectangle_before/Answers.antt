use Rattle.wb_book.specs.Joined.{stored_in, element_in}
use Rattle.wb_book.proofs.Told.{inside_row_told, elements_row_told}
use Rattle.wb_book.proofs.after.rectangle_before.Goals as goal

pub returns-in-Inside : goal.returns-in-Inside
returns-in-Inside c =
    inside_row_told c.inside_before.result (stored_in c.args.cells.now.entries) (element_in c.args.arrays.now.entries) c.args.row.now c.in-Inside.domain
    c.args.ranges.now c.in-Inside.is c.inside_before.ensures

pub returns-in-Elements : goal.returns-in-Elements
returns-in-Elements c =
    elements_row_told c.elements_before.result (stored_in c.args.cells.now.entries) (element_in c.args.arrays.now.entries) c.args.row.now c.in-Elements.array
    c.args.ranges.now c.in-Elements.is c.elements_before.ensures
