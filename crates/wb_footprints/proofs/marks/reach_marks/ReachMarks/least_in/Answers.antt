use Rattle.std.proofs.Common.{◌≡◌, ℕ, Bool, List, sym, ap, subst, ◌∙◌}
use Rattle.std.specs.BTreeMap.Range.{entries_between}
use Rattle.std.specs.List.{list_any}
use Rattle.std.specs.Ordering.{nat_cmp}
use Rattle.wb_footprints.specs.declared.marks.blocks.Blocks.{Blocks}
use Rattle.wb_footprints.specs.Groups.{in_groups}
use Rattle.wb_footprints.proofs.InReach.{IsLeastSoFar, any_asked, asked, least_all, least_none, least_one, near_tell}
use Rattle.wb_footprints.proofs.marks.reach_marks.ReachMarks.least_in.Goals as goal

pub loop-blocks-init : goal.loop-blocks-init
loop-blocks-init c =
    let marks = c.args.self.now in
    let ps = c.args.indices.now in
    let es = marks.groups.entries in
    let left = c.into_iter-blocks-iterator.result in
    let between = c.range-blocks-items.ensures.between tt in
    let is : left ≡ entries_between nat_cmp c.near.result.0 c.near.result.1 es = cc (between, c.into_iter-blocks-iterator.ensures.into_iter_gives) in
    least_none (any_asked ps left) (λ n. list_any (λ p. in_groups es p n) ps) c.args.after
    (λ n. sym (near_tell marks.reach marks.homes ps c.near.result.0 c.near.result.1 c.near.ensures.all n es marks.kept) ∙ sym (ap (λ gs. any_asked ps gs n) is))

pub loop-blocks-preserved : goal.loop-blocks-preserved
loop-blocks-preserved c =
    let ps = c.args.indices.now in
    let all : ℕ → Bool = λ n. list_any (λ p. in_groups c.args.self.now.groups.entries p n) ps in
    let rest : List (ℕ × Blocks) = c.next.new.self in
    let g : ℕ × Blocks = (c.in-Some.field-0-0.now, c.in-Some.blocks.now) in
    least_one c.loop-blocks.first c.earlier-first.result (asked ps g) (any_asked ps rest) all c.args.after
    (subst (λ (gs : List (ℕ × Blocks)). IsLeastSoFar c.loop-blocks.first (any_asked ps gs) all c.args.after) c.in-Some.ensures.steps c.loop-blocks.invariant)
    (λ q so. c.earlier-first.ensures.least q (asked ps g) c.args.after so c.least_in.ensures)

pub returns : goal.returns
returns c =
    let ps = c.args.indices.now in
    let all : ℕ → Bool = λ n. list_any (λ p. in_groups c.args.self.now.groups.entries p n) ps in
    least_all c.loop-blocks.first all c.args.after
    (subst (λ (gs : List (ℕ × Blocks)). IsLeastSoFar c.loop-blocks.first (any_asked ps gs) all c.args.after) c.in-None.ensures.steps.0 c.loop-blocks.invariant)
