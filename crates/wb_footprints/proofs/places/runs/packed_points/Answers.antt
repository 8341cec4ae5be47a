use Rattle.std.proofs.Common.{ℤ, List, Option, map, ap, ◌∙◌, arith}
use Rattle.std.proofs.lemmas.List.{take_all}
use Rattle.std.specs.List.{list_any}
use Rattle.wb_footprints.proofs.places.runs.packed_points.Goals as goal

pub returns : goal.returns
returns g c = λ f.
    let all = take_all c.loop-change.change-index c.args.changes.now (omega arith) in
    c.sorted.ensures f ∙ ap (list_any f) (c.loop-change.invariant ∙ ap (map (λ (e : List ℤ × Option ℤ). e.0)) all)
