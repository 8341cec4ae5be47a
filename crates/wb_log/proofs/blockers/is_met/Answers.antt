use Rattle.std.proofs.Common.{[], ◌∷◌, sym, ap, ◌∙◌}
use Rattle.selective_undo.specs.Log.{meets_any}
use Rattle.wb_cells.specs.declared.cells.cell.Cell.TheVariants.{Object}
use Rattle.wb_cells.specs.declared.cells.pattern.Pattern.TheVariants.{One}
use Rattle.wb_log.specs.Fills.{filled_in}
use Rattle.wb_log.specs.Kept.{footprint}
use Rattle.wb_log.specs.Records.{lent_kept, lent_cells}
use Rattle.wb_log.proofs.Alike.{written_met}
use Rattle.wb_log.proofs.blockers.is_met.Goals as goal

pub returns-in-Filled : goal.returns-in-Filled
returns-in-Filled c =
    let f = c.in-Filled.filled in
    let bs = filled_in f in
    let cs = lent_cells c.args.cells.now in
    c.meets_any.ensures
    ∙ ap (λ p. meets_any (footprint (p ∷ []) bs) cs) c.object.ensures
    ∙ sym (written_met (One (Object f.array.now) ∷ []) bs cs)
    ∙ ap (λ k. meets_any (lent_kept k) cs) (sym c.in-Filled.is)
