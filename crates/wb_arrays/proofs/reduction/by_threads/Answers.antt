use Rattle.std.proofs.Common.{◌≡◌, ℤ, ap, ◌∙◌}
use Rattle.std.specs.List.{reduce}
use Rattle.std.specs.Prelude.{FitsSigned}
use Rattle.std.specs.Int.{w64}
use Rattle.rayon.proofs.ToStd.{slice-AllZip}
use Rattle.wb_arrays.specs.Reductions.{op_in_128}
use Rattle.wb_arrays.proofs.Reducing.{lent_elements, reduced}
use Rattle.wb_arrays.proofs.reduction.by_threads.Goals as goal

pub returns-clause-value : goal.returns-clause-value
returns-clause-value g c =
    let done = c.reduce_with.ensures in
    let slice = ap (λ it. it.base.slice.now) c.with_min_len.ensures.base ∙ ap (λ it. it.slice.now) c.map.ensures.base ∙ c.par_iter.ensures in
    let lent = lent_elements c.args.pairs.now done.0 (slice-AllZip done.1.0 c.args.pairs.now (done.1.1 ∙ slice)
    (λ (e : g.row.I.Denot × ℤ) (y : ℤ). (y ≡ e.1) × FitsSigned w64 e.1) done.0 done.1.2) in
    reduced c.args.op done.0 c.reduce_with.result done.3 ∙ ap (reduce (op_in_128 c.args.op)) lent.0

pub returns-clause-small : goal.returns-clause-small
returns-clause-small g c =
    let done = c.reduce_with.ensures in
    let slice = ap (λ it. it.base.slice.now) c.with_min_len.ensures.base ∙ ap (λ it. it.slice.now) c.map.ensures.base ∙ c.par_iter.ensures in
    (lent_elements c.args.pairs.now done.0 (slice-AllZip done.1.0 c.args.pairs.now (done.1.1 ∙ slice)
    (λ (e : g.row.I.Denot × ℤ) (y : ℤ). (y ≡ e.1) × FitsSigned w64 e.1) done.0 done.1.2)).1
