use Rattle.std.proofs.Common.{◌&&◌, not, None, Option, cond, ap, ◌∙◌}
use Rattle.selective_undo.specs.Changes.{changes}
use Rattle.wb_cells.specs.declared.cells.cell.Cell.TheVariants.{Object}
use Rattle.wb_cells.specs.Cells.{cell_cmp}
use Rattle.wb_book.specs.Joined.{stored_in}
use Rattle.wb_book.specs.After.{is_array}
use Rattle.wb_book.specs.Kept.{Pieced}
use Rattle.wb_book.proofs.change.finish.Goals as goal

pub returns-clause-arrays : goal.returns-clause-arrays
returns-clause-arrays c = λ b.
    c.drop_gone.ensures.arrays b
    ∙ ap (λ (o : Option Pieced). cond (changes cell_cmp c.args.alone.now (Object b) && not
    (is_array (stored_in c.clear_given.new.cells.entries (Object b)))) None o) (c.put_in.ensures.arrays b)
