use Rattle.std.proofs.Common.{sym, ◌∙◌}
use Rattle.wb_book.specs.Joined.{element_in}
use Rattle.wb_book.proofs.Told.{packed_told}
use Rattle.wb_book.proofs.after.solid_before.Goals as goal

pub returns-in-Ok : goal.returns-in-Ok
returns-in-Ok c = λ stored.
    packed_told stored (element_in c.args.arrays.now.entries) c.in-Some.array c.args.packed.now.row c.new.result.row c.args.packed.now.changes.items
    c.changes.result.now c.new.result.changes.items (sym c.row.ensures ∙ c.in-Some.ensures) c.new.ensures.row
    (c.new.ensures.changes ∙ c.in-Ok.ensures) c.changes.ensures
