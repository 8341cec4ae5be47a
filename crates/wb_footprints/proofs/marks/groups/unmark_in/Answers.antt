use Rattle.std.proofs.Common.{ℕ, false, sym, ap, subst, ◌∙◌}
use Rattle.std.specs.BTreeMap.{BTreeMap, is_at}
use Rattle.std.specs.Ordering.{nat_cmp}
use Rattle.wb_footprints.specs.declared.marks.blocks.Blocks.{Blocks}
use Rattle.wb_footprints.specs.Groups.{in_groups, AreAll}
use Rattle.wb_footprints.proofs.InGroups.{any_set, cut, cut_absent, cut_present, less_left, others_left}
use Rattle.wb_footprints.proofs.marks.groups.unmark_in.Goals as goal

pub returns-in-Some-clause-others : goal.returns-in-Some-clause-others
returns-in-Some-clause-others c = λ p n other.
    let w = c.get_mut.follows.holds c.take.new.self in
    ap (λ es. in_groups es p n) w.0
    ∙ any_set p n (is_at (nat_cmp c.args.key)) c.args.groups.now.entries c.in-Some.blocks.now c.take.new.self false (sym c.in-Some.ensures.value)
    (others_left c.args.number c.in-Some.blocks.now c.take.new.self c.take.ensures p n other)

pub returns-in-Some-clause-all : goal.returns-in-Some-clause-all
returns-in-Some-clause-all c = λ f a.
    let w = c.get_mut.follows.holds c.take.new.self in
    subst (AreAll (cut f c.args.key c.args.number)) (sym w.0)
    (cut_present f c.args.key c.args.number c.args.groups.now.entries c.in-Some.blocks.now c.take.new.self c.get_mut.ensures.ordered
    (sym c.in-Some.ensures.value) (less_left c.args.number c.in-Some.blocks.now c.take.new.self c.take.ensures) a)

pub returns-in_default-clause-all : goal.returns-in_default-clause-all
returns-in_default-clause-all c = λ f a.
    subst (λ (m : BTreeMap ℕ Blocks). AreAll (cut f c.args.key c.args.number) m.entries) (sym c.get_mut.follows.holds-at-none)
    (cut_absent f c.args.key c.args.number c.args.groups.now.entries (sym c.in_default.ensures.value) a)
