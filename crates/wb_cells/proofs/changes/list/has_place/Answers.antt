use Rattle.std.proofs.Common.{◌≡◌, ◌∙◌, arith}
use Rattle.std.proofs.lemmas.Option.{slice_get_within, get_or_from_slice_get}
use Rattle.wb_cells.proofs.changes.list.has_place.Goals as goal

pub returns-in-Some-clause-place : goal.returns-in-Some-clause-place
returns-in-Some-clause-place c = λ r e.
    let run = c.in-Some.run'.now in
    let same : run ≡ r = c.in-Some.ensures.lookup.1 ∙ get_or_from_slice_get c.args.runs.now c.args.number r run e in
    rw same at c.has_place.ensures

pub returns-in-None-clause-within : goal.returns-in-None-clause-within
returns-in-None-clause-within c = λ e. cc

pub returns-in-None-clause-place : goal.returns-in-None-clause-place
returns-in-None-clause-place c = λ r e.
    absurd (omega (arith, slice_get_within c.args.runs.now c.args.number r e, c.in-None.ensures.lookup.3))
