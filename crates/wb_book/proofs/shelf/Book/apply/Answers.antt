use Rattle.std.proofs.Common.{Option, map, sym, ap, subst, ◌∙◌}
use Rattle.selective_undo.specs.Changes.{inverse, AllOnce}
use Rattle.selective_undo.specs.declared.Change.{Change}
use Rattle.wb_cells.specs.declared.cells.cell.Cell.{Cell}
use Rattle.wb_cells.specs.declared.cells.value.Value.{Value}
use Rattle.wb_cells.specs.Cells.{Changes, Contents, cell_cmp}
use Rattle.wb_book.specs.Joined.{answer, stored_in, element_in, with_answer}
use Rattle.wb_book.specs.Shelf.{cells_of}
use Rattle.wb_book.proofs.Kept.{get-cells_of}
use Rattle.wb_book.proofs.Whole.{told_by, once_told, inverse_is}
use Rattle.wb_book.proofs.shelf.Book.apply.Goals as goal

pub new-requires : goal.new-requires
new-requires g c =
    let told : Change Cell Value → Option Value = λ x. answer (stored_in c.self.inside.cells.entries) (element_in c.self.inside.arrays.entries) x.cell in
    subst (λ (ys : Changes). AllOnce cell_cmp ys) (sym (c.in-Ok.ensures ∙ ap (map (told_by told)) c.changes.ensures.same))
    (once_told told c.args.delta c.changes.ensures.once)

pub returns-in-Ok-change-clause-inverse : goal.returns-in-Ok-change-clause-inverse
returns-in-Ok-change-clause-inverse g c =
    let answers : Cell → Option Value = answer (stored_in c.self.inside.cells.entries) (element_in c.self.inside.arrays.entries) in
    c.new.ensures ∙ c.in-Ok.ensures ∙ ap (map (with_answer answers)) c.changes.ensures.same
    ∙ inverse_is answers (cells_of c.self.inside.cells c.self.inside.arrays)
    (λ k. sym (get-cells_of c.self.inside.cells c.self.inside.arrays c.self.invariant k)) c.args.delta
    ∙ ap (λ (s : Contents). inverse c.args.delta s.cells) c.self.view_is
