use Rattle.std.proofs.Common.{rules, w64, to_z, of_z, ◌≡◌, ℤ, Some, ap, ◌∙◌, arith}
use Rattle.std.specs.Prelude.{FitsSigned}
use Rattle.std.specs.Int.{w128}
use Rattle.std.proofs.lemmas.Int.{ints, to_z-of_z}
use Rattle.wb_arrays.specs.Reductions.{joined_in_128}
use Rattle.wb_arrays.proofs.Reducing.{reduced_more, small_more}
use Rattle.wb_arrays.proofs.reduction.alone.Goals as goal

pub loop-element-preserved : goal.loop-element-preserved
loop-element-preserved g c =
    let x = c.loop-element-item.result in
    let fits : FitsSigned w64 x.1 = (search rules) in
    let fits_wide : FitsSigned w128 x.1 = let f = fits in omega (arith, ints) in
    let same : to_z w128 (of_z w128 (to_z w64 (of_z w64 x.1))) ≡ x.1 = ap (λ (z : ℤ). to_z w128 (of_z w128 z)) (to_z-of_z w64 x.1 fits) ∙
    to_z-of_z w128 x.1 fits_wide in
    let k = c.loop-element.element-index in
    record {
      value = c.joined-done.ensures ∙ ap (λ (z : ℤ). joined_in_128 c.args.op c.loop-element.done (Some z)) same
          ∙ reduced_more c.args.pairs.now k x c.loop-element-test.true c.loop-element-item.is c.args.op c.loop-element.done c.loop-element.invariant.value;
      small = small_more c.args.pairs.now k x c.loop-element-test.true c.loop-element-item.is c.loop-element.invariant.small fits;
    }
