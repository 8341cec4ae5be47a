use Rattle.wb_cells.specs.Runs.{changes_in}
use Rattle.wb_footprints.specs.Places.{place_marked}
use Rattle.wb_footprints.proofs.Setting.{on_err}
use Rattle.wb_footprints.proofs.RunPlaces.{row_alone, row_done, row_failed}
use Rattle.wb_footprints.proofs.marks.cell_lists.mark_row.Goals as goal

pub returns-in_err-add-in-Some-clause-err : goal.returns-in_err-add-in-Some-clause-err
returns-in_err-add-in-Some-clause-err c =
    let row = c.args.run.row in
    let set = rw c.if-not-add_block.false at c.add_block.ensures in
    on_err c.from_residual.result (row_failed c.args.marking (place_marked c.args.marks.now) (place_marked c.add_block.new.self)
    (place_marked c.add.new.self) c.args.number
    row c.args.run.indices (changes_in c.args.cells.now.form) c.requires.some c.requires.marked set c.in-Some.place
    c.in-Some.ensures c.in_err-add-in-Some.ensures.err)

pub returns-in-None-clause-ok : goal.returns-in-None-clause-ok
returns-in-None-clause-ok c =
    let row = c.args.run.row in
    let set = rw c.if-not-add_block.false at c.add_block.ensures in
    row_alone c.args.marking (place_marked c.args.marks.now) (place_marked c.add_block.new.self)
    (place_marked c.add_block.new.self) c.args.number row
    c.args.run.indices (changes_in c.args.cells.now.form) c.requires.some c.requires.marked set c.in-None.ensures

pub returns-in_ok-add-in-Some-clause-ok : goal.returns-in_ok-add-in-Some-clause-ok
returns-in_ok-add-in-Some-clause-ok c =
    let row = c.args.run.row in
    let set = rw c.if-not-add_block.false at c.add_block.ensures in
    row_done c.args.marking (place_marked c.args.marks.now) (place_marked c.add_block.new.self)
    (place_marked c.add.new.self) c.args.number row c.args.run.indices
    (changes_in c.args.cells.now.form) c.requires.some c.requires.marked set c.in-Some.place c.in-Some.ensures
    c.in_ok-add-in-Some.ensures.ok
