use Rattle.std.proofs.Common.{sym, ap, subst, ◌∙◌}
use Rattle.std.specs.BTreeMap.{is_at}
use Rattle.std.specs.Ordering.{nat_cmp}
use Rattle.wb_footprints.specs.Groups.{in_groups, AreAll}
use Rattle.wb_footprints.proofs.InGroups.{all_removed, any_removed}
use Rattle.wb_footprints.proofs.marks.groups.drop_bare.Goals as goal

pub returns-then-is_bare-clause-same : goal.returns-then-is_bare-clause-same
returns-then-is_bare-clause-same c = λ p n.
    ap (λ es. in_groups es p n) c.remove.ensures.entries
    ∙ any_removed p n (is_at (nat_cmp c.args.key)) c.args.groups.now.entries (λ v found. c.is_bare.ensures c.if-is_bare.true v found p n)

pub returns-then-is_bare-clause-all : goal.returns-then-is_bare-clause-all
returns-then-is_bare-clause-all c = λ f a.
    subst (AreAll f) (sym c.remove.ensures.entries) (all_removed f (is_at (nat_cmp c.args.key)) c.args.groups.now.entries a)
