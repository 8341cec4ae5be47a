use Rattle.std.proofs.Common.{ap}
use Rattle.wb_cells.specs.Runs.{changes_in, packed_changes, rectangle_entries, numbered_entries}
use Rattle.wb_book.specs.Joined.{answer, stored_in, element_in}
use Rattle.wb_book.proofs.Told.{form_told, block_told}
use Rattle.wb_book.proofs.after.form_before.Goals as goal

pub returns-in-Rank1 : goal.returns-in-Rank1
returns-in-Rank1 c =
    let p = c.in-Rank1.packed in
    form_told c.line_before.result c.args.form.now (packed_changes p.row p.changes.items) (element_in c.args.arrays.now.entries) (ap changes_in c.in-Rank1.is)
    c.line_before.ensures (stored_in c.args.cells.now.entries)

pub returns-in-Rank2 : goal.returns-in-Rank2
returns-in-Rank2 c =
    let p = c.in-Rank2.packed in
    form_told c.plane_before.result c.args.form.now (packed_changes p.row p.changes.items) (element_in c.args.arrays.now.entries) (ap changes_in c.in-Rank2.is)
    c.plane_before.ensures (stored_in c.args.cells.now.entries)

pub returns-in-Rank3 : goal.returns-in-Rank3
returns-in-Rank3 c =
    let p = c.in-Rank3.packed in
    form_told c.solid_before.result c.args.form.now (packed_changes p.row p.changes.items) (element_in c.args.arrays.now.entries) (ap changes_in c.in-Rank3.is)
    c.solid_before.ensures (stored_in c.args.cells.now.entries)

pub returns-in-Rectangle : goal.returns-in-Rectangle
returns-in-Rectangle c =
    let b = c.in-Rectangle.block in
    block_told c.same_before.result c.args.form.now (answer (stored_in c.args.cells.now.entries) (element_in c.args.arrays.now.entries))
    (packed_changes b.row (rectangle_entries b.ranges b.number)) (ap changes_in c.in-Rectangle.is) c.same_before.ensures

pub returns-in-Numbers : goal.returns-in-Numbers
returns-in-Numbers c =
    let b = c.in-Numbers.block in
    block_told c.each_before.result c.args.form.now (answer (stored_in c.args.cells.now.entries) (element_in c.args.arrays.now.entries))
    (packed_changes b.row (numbered_entries b.ranges b.numbers.items)) (ap changes_in c.in-Numbers.is) c.each_before.ensures
