use Rattle.std.proofs.Common.{◌++◌, sym, ap, ◌∙◌}
use Rattle.selective_undo.specs.Log.{meets_any}
use Rattle.wb_cells.specs.Reads.{all_read}
use Rattle.wb_log.specs.Kept.{footprint}
use Rattle.wb_log.specs.Records.{lent_footprint, lent_cells}
use Rattle.wb_log.proofs.Alike.{meets_alike}
use Rattle.wb_log.proofs.blockers.is_listed_met.Goals as goal

pub returns : goal.returns
returns c =
    let k = lent_footprint c.args.kept.now in
    let named = c.reads.result.0.now ++ all_read c.reads.result.1.now in
    let bs = c.before-2.result.now in
    let cs = lent_cells c.args.cells.now in
    c.meets_any.ensures ∙ sym (meets_alike k.reads named bs cs c.reads.ensures) ∙
    ap (λ xs. meets_any (footprint k.reads xs) cs) c.before-2.ensures.same
