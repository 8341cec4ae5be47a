use Rattle.std.proofs.Common.{Some, List, ℤ, sym, ap, ◌∙◌}
use Rattle.wb_cells.specs.declared.changes.rectangle.RectangleChanges.{RectangleChanges}
use Rattle.wb_cells.specs.Runs.{packed_changes, rectangle_entries}
use Rattle.wb_book.specs.Joined.{stored_in}
use Rattle.wb_book.proofs.Told.{inside_told, outside_told}
use Rattle.wb_book.proofs.after.inside_before.Goals as goal

pub returns-then-is_same : goal.returns-then-is_same
returns-then-is_same c = λ element n.
    let stored = stored_in c.args.cells.now.entries in
    let rs = c.args.ranges.now in
    ap (λ (r : RectangleChanges). packed_changes r.row (rectangle_entries r.ranges r.number)) c.new.ensures
    ∙ inside_told stored element rs n c.args.domain.now
    (sym c.ranges_in.ensures ∙ c.in-Some.is ∙ ap (λ (qs : List (List ℤ)). Some qs) (c.is_same.ensures.0 c.if-is_same.true))

pub returns-in-None : goal.returns-in-None
returns-in-None c = λ element n.
    let stored = stored_in c.args.cells.now.entries in
    ap (λ (r : RectangleChanges). packed_changes r.row (rectangle_entries r.ranges r.number)) c.new-in-None.ensures
    ∙ outside_told stored element c.args.ranges.now n c.args.domain.now (sym c.ranges_in.ensures ∙ c.in-None.is)
