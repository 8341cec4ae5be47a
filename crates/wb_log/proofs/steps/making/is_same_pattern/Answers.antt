use Rattle.std.proofs.Common.{sym, ap, ◌∙◌}
use Rattle.wb_cells.specs.declared.cells.pattern.Pattern.TheVariants.{One}
use Rattle.wb_log.proofs.Numbers.{same_cell}
use Rattle.wb_log.proofs.steps.making.is_same_pattern.Goals as goal

pub returns-in-One-other : goal.returns-in-One-other
returns-in-One-other c = λ e.
    let one = c.cell.result in
    let by = c.cell-in-One-other.result in
    let same = sym c.cell.ensures ∙ same_cell one by (sym c.is_same.ensures ∙ e) ∙ c.cell-in-One-other.ensures in
    c.in-One.is ∙ ap One same ∙ sym c.in-One-other.is
