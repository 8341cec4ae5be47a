use Rattle.wb_footprints.specs.Places.{place_marked}
use Rattle.wb_footprints.proofs.Gone.{row_gone}
use Rattle.wb_footprints.proofs.marks.cell_lists.unmark_first.Goals as goal

pub returns-clause-row : goal.returns-clause-row
returns-clause-row c = λ yes.
    let row = c.args.row.now in
    row_gone (place_marked c.unmark.new.marks) c.args.number c.args.marking row c.args.cell.now c.requires (c.is_clear.ensures yes)
    c.unmark.ensures.gone
