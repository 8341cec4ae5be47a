use Rattle.std.proofs.Common.{Some, sym, ap, ◌∙◌, arith}
use Rattle.std.proofs.lemmas.Option.{get_or_from_slice_get}
use Rattle.wb_cells.specs.Runs.{packed_changes, rectangle_entries}
use Rattle.wb_cells.proofs.Rectangles.{length_rectangle, rectangle_at}
use Rattle.wb_cells.proofs.changes.rectangle.RectangleChanges.change.Goals as goal

pub index_in-requires : goal.index_in-requires
index_in-requires c = let r = c.args.self.now in omega (arith, c.requires, length_rectangle r.row r.ranges r.number)

pub returns : goal.returns
returns c =
    let r = c.args.self.now in
    let there = rectangle_at r.row r.ranges r.number c.args.at c.index_in.result c.index_in.ensures ∙ ap Some (sym c.change.ensures) in
    sym (get_or_from_slice_get (packed_changes r.row (rectangle_entries r.ranges r.number)) c.args.at c.change.result c.change.result there)
