use Rattle.std.proofs.Common.{◌≡◌, None, Ok, sym, ap, ◌∙◌}
use Rattle.std.specs.FinMap.{get}
use Rattle.wb_cells.specs.declared.cells.cell.Cell.TheVariants.{Object}
use Rattle.wb_edit.specs.Looks.{array_kind}
use Rattle.wb_book.specs.Shelf.{piece_at}
use Rattle.wb_history.specs.Pieces.{piece_answer}
use Rattle.wb_history.proofs.Pieces.{or_outside, piece_is_lent}
use Rattle.wb_history.proofs.piece.piece_answer.Goals as goal

pub returns-in-None : goal.returns-in-None
returns-in-None c =
    let s = c.args.book.now.cells in
    let there : array_kind (get s (Object c.args.array)) ≡ Ok c.in-Ok.field-0 = sym (c.in-Ok.ensures ∙ ap array_kind c.get.ensures) in
    let none : piece_at s c.args.array c.args.locale ≡ None = sym c.in-None.ensures in
    rw c.refused-in-None.ensures
    (ap piece_answer (piece_is_lent s c.args.array c.args.locale c.in-Ok.field-0 c.writes-formed.ensures.kept there ∙ ap or_outside none))
