use Rattle.std.proofs.Common.{sym, ◌∙◌}
use Rattle.wb_cells.proofs.Rectangles.{length_rectangle}
use Rattle.wb_cells.proofs.changes.rectangle.RectangleChanges.len.Goals as goal

pub returns : goal.returns
returns c = let r = c.args.self.now in c.size.ensures.count ∙ sym (length_rectangle r.row r.ranges r.number)
