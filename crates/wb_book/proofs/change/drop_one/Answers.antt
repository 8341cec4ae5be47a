use Rattle.std.proofs.Common.{sym, ◌∙◌}
use Rattle.wb_book.specs.Joined.{stored_in}
use Rattle.wb_book.specs.Kept.{array_in}
use Rattle.wb_book.proofs.Grown.{kept_one, dropped_one}
use Rattle.wb_book.proofs.change.drop_one.Goals as goal

pub returns-then-is_array : goal.returns-then-is_array
returns-then-is_array c = λ b.
    kept_one (stored_in c.args.cells.now.entries) c.args.change.now.cell c.in-Object.name b (array_in c.args.arrays.now.entries b)
    (sym c.as_cell.ensures ∙ c.in-Object.is) (sym c.is_array.ensures ∙ c.if-is_array.true)

pub returns-else-is_array : goal.returns-else-is_array
returns-else-is_array c = λ b.
    dropped_one (stored_in c.args.cells.now.entries) c.args.change.now.cell c.in-Object.name b (array_in c.args.arrays.now.entries b)
    (array_in c.drop_array.new.arrays.entries b)
    (sym c.as_cell.ensures ∙ c.in-Object.is) (sym c.is_array.ensures ∙ c.if-is_array.false) (c.drop_array.ensures b)
