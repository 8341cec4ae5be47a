use Rattle.std.proofs.Common.{true, ◌&&◌, ◌==◌, sym, ap, subst, ◌∙◌}
use Rattle.std.specs.BTreeMap.{is_at}
use Rattle.std.specs.Ordering.{nat_cmp}
use Rattle.wb_footprints.specs.Groups.{in_groups, AreAll}
use Rattle.wb_footprints.specs.Indices.{in_indices}
use Rattle.wb_footprints.proofs.InGroups.{any_set, all_at, all_set, passes_set, groups_put, all_put_in}
use Rattle.wb_footprints.proofs.marks.groups.add_to.Goals as goal

pub returns-in-Some-clause-sets : goal.returns-in-Some-clause-sets
returns-in-Some-clause-sets c =
    let w = c.get_mut.follows.holds c.add.new.self in
    let b = c.args.block in
    record {
      at = λ p n.
          ap (λ es. in_groups es p n) w.0
          ∙ any_set p n (is_at (nat_cmp c.args.key)) c.args.groups.now.entries c.in-Some.blocks.now c.add.new.self
          ((c.add.result && in_indices b.indices p) && (b.number == n)) (sym c.in-Some.ensures.value) (c.add.ensures.at p n);
    }

pub returns-in-Some-clause-all : goal.returns-in-Some-clause-all
returns-in-Some-clause-all c = λ f a new.
    let w = c.get_mut.follows.holds c.add.new.self in
    let b = c.args.block in
    let es = c.args.groups.now.entries in
    subst (AreAll f) (sym w.0) (all_set f c.args.key es c.add.new.self
    (passes_set f c.args.key b.number c.in-Some.blocks.now c.add.new.self c.add.result (in_indices b.indices) c.add.ensures new
    (all_at f c.args.key es c.in-Some.blocks.now (sym c.in-Some.ensures.value) a)) a)

pub returns-in-Ok-clause-sets : goal.returns-in-Ok-clause-sets
returns-in-Ok-clause-sets c =
    let b = c.args.block in
    let set = rw c.if-not-add.false at c.add-2.ensures in
    groups_put c.args.groups.now c.get_mut.follows.lender-at-none c.insert.new.self c.args.key c.new-blocks.result c.add-2.new.self
    c.get_mut.follows.holds-at-none (sym c.in_default.ensures.value) c.in-Ok.ensures.entries c.new-blocks.ensures
    (λ p. true && in_indices b.indices p) b.number set

pub returns-in-Ok-clause-all : goal.returns-in-Ok-clause-all
returns-in-Ok-clause-all c = λ f a new.
    let b = c.args.block in
    all_put_in c.args.groups.now c.get_mut.follows.lender-at-none c.insert.new.self c.args.key c.new-blocks.result c.add-2.new.self
    c.get_mut.follows.holds-at-none (sym c.in_default.ensures.value) c.in-Ok.ensures.entries c.new-blocks.ensures
    f b.number c.add-2.result (in_indices b.indices) c.add-2.ensures new a
