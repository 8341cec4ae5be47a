use Rattle.std.proofs.Common.{List, ◌∷◌, sym, ap, ◌∙◌}
use Rattle.wb_cells.specs.declared.cells.cell.Cell.TheVariants.{Object}
use Rattle.wb_cells.specs.declared.cells.pattern.Pattern.{Pattern}
use Rattle.wb_cells.specs.declared.cells.pattern.Pattern.TheVariants.{One}
use Rattle.wb_cells.specs.Reads.{patterns_of}
use Rattle.wb_log.proofs.Filled.{inverse_cells}
use Rattle.wb_log.proofs.steps.filling.make_fill.Goals as goal

pub form_kept-requires-clause-cells : goal.form_kept-requires-clause-cells
form_kept-requires-clause-cells g c =
    ap patterns_of c.in-Ok-apply.ensures.inverse ∙ inverse_cells c.args.delta c.args.book.now.cells ∙ c.requires.cells

pub form_kept-requires-clause-reads : goal.form_kept-requires-clause-reads
form_kept-requires-clause-reads g c =
    c.requires.reads ∙ ap (λ (ps : List Pattern). One (Object c.args.fills.now.array) ∷ ps) (sym (form_kept-requires-clause-cells g c))
