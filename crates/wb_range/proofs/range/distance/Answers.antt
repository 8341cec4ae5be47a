use Rattle.std.proofs.Common.{SFits, w64, to_z-of_z, arith}
use Rattle.std.proofs.lemmas.Int.{ints}
use Rattle.wb_range.proofs.range.distance.Goals as goal

pub returns-then-b-a-clause-reached : goal.returns-then-b-a-clause-reached
returns-then-b-a-clause-reached c =
    let f : SFits w64 c.args.a = c.ranges.a in
    let g : SFits w64 c.args.b = c.ranges.b in
    λ q. (λ h. omega arith, λ h. omega (arith, ints, c.if-b-a.true))

pub returns-then-b-a-clause-before : goal.returns-then-b-a-clause-before
returns-then-b-a-clause-before c =
    let f : SFits w64 c.args.a = c.ranges.a in
    let g : SFits w64 c.args.b = c.ranges.b in
    λ q. (λ h. omega (arith, ints, c.if-b-a.true, h), λ h. absurd (omega (arith, h)))

pub returns-else-b-a-clause-reached : goal.returns-else-b-a-clause-reached
returns-else-b-a-clause-reached c =
    let f : SFits w64 c.args.a = c.ranges.a in
    let g : SFits w64 c.args.b = c.ranges.b in
    λ q. (λ h. omega (arith, ints, c.if-b-a.false, simp to_z-of_z at c.abs_diff.ensures, h), λ h. omega (arith, ints, c.if-b-a.false, simp to_z-of_z at c.abs_diff.ensures, h))

pub returns-else-b-a-clause-before : goal.returns-else-b-a-clause-before
returns-else-b-a-clause-before c =
    let f : SFits w64 c.args.a = c.ranges.a in
    let g : SFits w64 c.args.b = c.ranges.b in
    λ q. (λ h. omega (arith, ints, c.if-b-a.false, simp to_z-of_z at c.abs_diff.ensures, h), λ h. omega (arith, ints, c.if-b-a.false, simp to_z-of_z at c.abs_diff.ensures, h))
