use Rattle.std.proofs.Common.{[], ◌∷◌, ◌++◌, Some, sym, ap, subst, ◌∙◌}
use Rattle.std.proofs.lemmas.Result.{on_ok_weaker}
use Rattle.wb_cells.specs.Reads.{patterns_of}
use Rattle.wb_footprints.specs.Footprints.{IsIndexOf, footprint, with_footprint}
use Rattle.wb_log.specs.Fills.{filled_in}
use Rattle.wb_log.proofs.index.by_footprint.add_filled.Goals as goal

pub returns-in-Some-clause-ok : goal.returns-in-Some-clause-ok
returns-in-Some-clause-ok c =
    let bs = filled_in c.args.filled.now in
    let now = c.add_runs.new.self in
    let n = c.args.number in
    on_ok_weaker c.add_runs.result
    (λ h footprints was none.
    subst (λ p. IsIndexOf now (with_footprint footprints n (Some (footprint (p ∷ patterns_of bs) bs)))) c.object.ensures
    (h footprints bs was none (ap patterns_of (sym (c.in-Some.ensures ∙ c.in-Ok.ensures.same)))))
    c.add_runs.ensures.ok
