use Rattle.std.proofs.Common.{sym, ap, ◌∙◌}
use Rattle.std.specs.FinMap.{get}
use Rattle.std.specs.Option.{option_map}
use Rattle.wb_cells.specs.declared.cells.cell.Cell.TheVariants.{Element}
use Rattle.wb_cells.specs.declared.cells.value.Value.TheVariants.{Number}
use Rattle.wb_cells.specs.Cells.{Contents}
use Rattle.wb_book.proofs.Kept.{get-cells_of}
use Rattle.wb_book.proofs.shelf.Book.element.Goals as goal

pub returns : goal.returns
returns c =
    let p = c.self.inside in
    ap (λ (s : Contents). get s.cells (Element c.args.array.now c.args.index.now)) (sym c.self.view_is)
    ∙ get-cells_of p.cells p.arrays c.self.invariant (Element c.args.array.now c.args.index.now)
    ∙ ap (option_map Number) (sym c.element.ensures)
