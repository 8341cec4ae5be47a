use Rattle.std.proofs.Common.{◌≡◌, ℕ, Bool, List, sym, ap, subst, ◌∙◌}
use Rattle.std.specs.BTreeMap.Range.{entries_between}
use Rattle.std.specs.List.{list_any}
use Rattle.std.specs.Ordering.{nat_cmp}
use Rattle.wb_footprints.specs.declared.marks.blocks.Blocks.{Blocks}
use Rattle.wb_footprints.specs.Groups.{in_groups}
use Rattle.wb_footprints.proofs.InReach.{IsLeftToJoin, all_left, any_asked, asked, near_tell, none_left, one_left}
use Rattle.wb_footprints.proofs.marks.reach_marks.ReachMarks.join_in.Goals as goal

pub loop-blocks-init : goal.loop-blocks-init
loop-blocks-init c =
    let marks = c.args.self.now in
    let ps = c.args.indices.now in
    let es = marks.groups.entries in
    let left = c.into_iter-blocks-iterator.result in
    let between = c.range-blocks-items.ensures.between tt in
    let is : left ≡ entries_between nat_cmp c.near.result.0 c.near.result.1 es = cc (between, c.into_iter-blocks-iterator.ensures.into_iter_gives) in
    all_left c.args.waiting.now (any_asked ps left) (λ n. list_any (λ p. in_groups es p n) ps) c.args.after
    (λ n. sym (near_tell marks.reach marks.homes ps c.near.result.0 c.near.result.1 c.near.ensures.all n es marks.kept) ∙ sym (ap (λ gs. any_asked ps gs n) is))

pub loop-blocks-preserved : goal.loop-blocks-preserved
loop-blocks-preserved c =
    let ps = c.args.indices.now in
    let all : ℕ → Bool = λ n. list_any (λ p. in_groups c.args.self.now.groups.entries p n) ps in
    let rest : List (ℕ × Blocks) = c.next.new.self in
    let g : ℕ × Blocks = (c.in-Some.field-0-0.now, c.in-Some.blocks.now) in
    one_left c.args.waiting.now c.loop-blocks.waiting c.join_in.new.waiting (asked ps g) (any_asked ps rest) all c.args.after
    (subst (λ (gs : List (ℕ × Blocks)). IsLeftToJoin c.args.waiting.now c.loop-blocks.waiting (any_asked ps gs) all c.args.after) c.in-Some.ensures.steps
    c.loop-blocks.invariant)
    c.in_ok-join_in.ensures

pub returns : goal.returns
returns c =
    let ps = c.args.indices.now in
    let all : ℕ → Bool = λ n. list_any (λ p. in_groups c.args.self.now.groups.entries p n) ps in
    none_left c.args.waiting.now c.loop-blocks.waiting all c.args.after
    (subst (λ (gs : List (ℕ × Blocks)). IsLeftToJoin c.args.waiting.now c.loop-blocks.waiting (any_asked ps gs) all c.args.after) c.in-None.ensures.steps.0
    c.loop-blocks.invariant)
