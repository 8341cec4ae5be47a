use Rattle.std.proofs.Common.{[], ◌∷◌, Some, sym, ap, ◌∙◌}
use Rattle.wb_cells.specs.Reads.{patterns_of}
use Rattle.wb_footprints.specs.Footprints.{footprint}
use Rattle.wb_log.specs.Fills.{filled_in}
use Rattle.wb_log.proofs.index.by_footprint.take_filled.Goals as goal

pub returns-in-Some : goal.returns-in-Some
returns-in-Some c = λ footprints was had.
    let bs = filled_in c.args.filled.now in
    c.take_runs.ensures footprints bs was (ap patterns_of (sym (c.in-Some.ensures ∙ c.in-Ok.ensures.same)))
    (had ∙ ap (λ p. Some (footprint (p ∷ patterns_of bs) bs)) (sym c.object.ensures))
