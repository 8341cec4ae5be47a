use Rattle.std.proofs.Common.{SFits, w64, to_z-of_z, arith, rules}
use Rattle.std.proofs.lemmas.Int.{ints}
use Rattle.wb_range.proofs.Meet.{length_of, index_is}
use Rattle.wb_range.proofs.Spelling.{AreBoundsOf, bounds_up, bounds_down}
use Rattle.wb_range.proofs.range.Range.bounds.Goals as goal

pub at-last-requires : goal.at-last-requires
at-last-requires c = omega (arith, length_of _ _ _ _ c.self.view_is)

pub returns-then-self-lt0-clause-value : goal.returns-then-self-lt0-clause-value
returns-then-self-lt0-clause-value c =
    let f : SFits w64 c.self.inside.first = search rules in
    let g : SFits w64 c.self.inside.stride = search rules in
    let h : SFits w64 c.at-last.result = search rules in
    let l = index_is _ _ _ _ _ _ c.self.view_is c.at-last.ensures in
    let b : AreBoundsOf c.args.self.now c.at-last.result c.self.inside.first =
    bounds_down c.self.inside c.args.self.now c.at-last.result c.self.invariant c.self.view_is (omega (arith, ints)) c.if-self-eq0.false l.1 in
    simp to_z-of_z b.value

pub returns-then-self-lt0-clause-spelled : goal.returns-then-self-lt0-clause-spelled
returns-then-self-lt0-clause-spelled c =
    let f : SFits w64 c.self.inside.first = search rules in
    let g : SFits w64 c.self.inside.stride = search rules in
    let h : SFits w64 c.at-last.result = search rules in
    let l = index_is _ _ _ _ _ _ c.self.view_is c.at-last.ensures in
    let b : AreBoundsOf c.args.self.now c.at-last.result c.self.inside.first =
    bounds_down c.self.inside c.args.self.now c.at-last.result c.self.invariant c.self.view_is (omega (arith, ints)) c.if-self-eq0.false l.1 in
    simp to_z-of_z b.spelled

pub returns-then-self-lt0-clause-within : goal.returns-then-self-lt0-clause-within
returns-then-self-lt0-clause-within c =
    let f : SFits w64 c.self.inside.first = search rules in
    let g : SFits w64 c.self.inside.stride = search rules in
    let h : SFits w64 c.at-last.result = search rules in
    let l = index_is _ _ _ _ _ _ c.self.view_is c.at-last.ensures in
    let b : AreBoundsOf c.args.self.now c.at-last.result c.self.inside.first =
    bounds_down c.self.inside c.args.self.now c.at-last.result c.self.invariant c.self.view_is (omega (arith, ints)) c.if-self-eq0.false l.1 in
    simp to_z-of_z b.within

pub returns-else-self-lt0-clause-value : goal.returns-else-self-lt0-clause-value
returns-else-self-lt0-clause-value c =
    let f : SFits w64 c.self.inside.first = search rules in
    let g : SFits w64 c.self.inside.stride = search rules in
    let h : SFits w64 c.at-last.result = search rules in
    let l = index_is _ _ _ _ _ _ c.self.view_is c.at-last.ensures in
    let b : AreBoundsOf c.args.self.now c.self.inside.first c.at-last.result =
    bounds_up c.self.inside c.args.self.now c.at-last.result c.self.invariant c.self.view_is (omega (arith, ints)) c.if-self-eq0.false l.1 in
    simp to_z-of_z b.value

pub returns-else-self-lt0-clause-spelled : goal.returns-else-self-lt0-clause-spelled
returns-else-self-lt0-clause-spelled c =
    let f : SFits w64 c.self.inside.first = search rules in
    let g : SFits w64 c.self.inside.stride = search rules in
    let h : SFits w64 c.at-last.result = search rules in
    let l = index_is _ _ _ _ _ _ c.self.view_is c.at-last.ensures in
    let b : AreBoundsOf c.args.self.now c.self.inside.first c.at-last.result =
    bounds_up c.self.inside c.args.self.now c.at-last.result c.self.invariant c.self.view_is (omega (arith, ints)) c.if-self-eq0.false l.1 in
    simp to_z-of_z b.spelled

pub returns-else-self-lt0-clause-within : goal.returns-else-self-lt0-clause-within
returns-else-self-lt0-clause-within c =
    let f : SFits w64 c.self.inside.first = search rules in
    let g : SFits w64 c.self.inside.stride = search rules in
    let h : SFits w64 c.at-last.result = search rules in
    let l = index_is _ _ _ _ _ _ c.self.view_is c.at-last.ensures in
    let b : AreBoundsOf c.args.self.now c.self.inside.first c.at-last.result =
    bounds_up c.self.inside c.args.self.now c.at-last.result c.self.invariant c.self.view_is (omega (arith, ints)) c.if-self-eq0.false l.1 in
    simp to_z-of_z b.within
