use Rattle.std.proofs.Common.{sym, ap, ◌∙◌, arith}
use Rattle.std.specs.Prelude.{option_map}
use Rattle.std.proofs.lemmas.Option.{get_or_from_slice_get}
use Rattle.wb_cells.specs.Runs.{cell_of, value_of, packed_changes, rectangle_entries}
use Rattle.wb_cells.proofs.Rectangles.{length_rectangle, rectangle_at}
use Rattle.wb_cells.proofs.changes.rectangle.RectangleChanges.cell.Goals as goal

pub index_in-requires : goal.index_in-requires
index_in-requires c = let r = c.args.self.now in omega (arith, c.requires, length_rectangle r.row r.ranges r.number)

pub returns : goal.returns
returns c = λ d.
    let r = c.args.self.now in
    let i = c.index_in.result in
    let there = rectangle_at r.row r.ranges r.number c.args.at i c.index_in.ensures in
    let x = get_or_from_slice_get (packed_changes r.row (rectangle_entries r.ranges r.number)) c.args.at
    (record { cell = cell_of r.row i; value = option_map (value_of r.row) r.number }) d there in
    c.cell.ensures ∙ ap (λ y. y.cell) (sym x)
