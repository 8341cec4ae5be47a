use Rattle.std.proofs.Common.{◌≡◌, ◌<◌, length, arith}
use Rattle.wb_cells.specs.Runs.{changes_in}
use Rattle.wb_footprints.specs.Places.{place_marked}
use Rattle.wb_footprints.specs.Footprints.{at_cell, marked_at}
use Rattle.wb_footprints.proofs.Rows.{after_clears, first_family, none_cleared, row_cleared}
use Rattle.wb_footprints.proofs.marks.cell_lists.unmark_row.Goals as goal

pub unmark_first-requires : goal.unmark_first-requires
unmark_first-requires c =
    let row = c.args.row.now in
    let xs = changes_in c.args.cells.now.form in
    let some : 0 < length xs = omega (arith, c.if-len-eq0.false, c.len.ensures) in
    first_family row xs c.requires c.cell.result c.cell.ensures some

pub returns-then-len-eq0 : goal.returns-then-len-eq0
returns-then-len-eq0 c =
    let xs = changes_in c.args.cells.now.form in
    let none : length xs ≡ 0 = omega (arith, c.if-len-eq0.true, c.len.ensures) in
    none_cleared (place_marked c.args.marks.now) c.args.number c.args.marking xs none

pub returns-then-unmark_first : goal.returns-then-unmark_first
returns-then-unmark_first c =
    let row = c.args.row.now in
    row_cleared (place_marked c.args.marks.now) (place_marked c.unmark_first.new.marks) c.args.number c.args.marking row
    (changes_in c.args.cells.now.form) c.cell.result c.requires c.unmark_first.ensures.cell (c.unmark_first.ensures.row c.if-unmark_first.true)

pub returns : goal.returns
returns c = after_clears (place_marked c.args.marks.now) (place_marked c.unmark_first.new.marks) (place_marked c.unmark_each.new.marks) c.args.number
    (at_cell c.args.marking c.cell.result) (marked_at c.args.marking (changes_in c.args.cells.now.form)) c.unmark_first.ensures.cell c.unmark_each.ensures
