use Rattle.std.proofs.Common.{◌≡◌, ap, Ok, pos, w64, SFits}
use Rattle.std.proofs.lemmas.Int.{to_z-of_z}
use Rattle.wb_literals.proofs.WithinLimits.Within.{within}
use Rattle.wb_literals.proofs.limits.literals.range_within.Goals as goal

pub returns-in-Ok : goal.returns-in-Ok
returns-in-Ok c =
    let low : SFits w64 c.args.low = c.ranges.low in
    let high : SFits w64 c.args.high = c.ranges.high in
    let stride : SFits w64 c.args.stride = c.ranges.stride in
    let limits = simp to_z-of_z at c.in-Ok.ensures.within in
    let is = simp to_z-of_z at c.in-Ok.ensures.ok in
    let nonzero : c.args.stride ≡ pos 0 → ⊥ = λ e. let h = (simp to_z-of_z at c.in-Ok.ensures.zero_stride).1 e in cc in
    rw (within c.args.low c.args.high c.args.stride c.args.align nonzero limits) (ap Ok is)
