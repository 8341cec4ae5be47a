use Rattle.std.proofs.Common.{◌≡◌, List, Some, None, IsSome, Option, refl, sym, ap, subst, ◌∙◌}
use Rattle.std.specs.BTreeMap.{BTreeMap}
use Rattle.wb_cells.specs.declared.values.index.Index.{Index}
use Rattle.wb_cells.specs.Cells.{Name}
use Rattle.wb_cells.specs.Stored.{indices_in, is_member}
use Rattle.wb_cells.proofs.MemberMaps.{member_less, member_none, each_put}
use Rattle.wb_cells.proofs.book.members.take_one.Goals as goal

pub returns-in-Some-clause-taken : goal.returns-in-Some-clause-taken
returns-in-Some-clause-taken c =
    let d : Name = c.args.domain.now in
    let found : indices_in c.args.sets.now.entries d ≡ Some c.in-Some.set.now = sym c.in-Some.ensures.value in
    let is_some = subst (λ (o : Option (List Index)). IsSome o) (sym found) refl in
    member_less c.args.sets.now.entries _ d c.args.index.now c.in-Some.set.now c.take.new.self found ((c.get_mut.follows.holds c.take.new.self).3 is_some).0
    c.take.ensures.taken

pub returns-in-Some-clause-ordered : goal.returns-in-Some-clause-ordered
returns-in-Some-clause-ordered c = (c.get_mut.follows.holds c.take.new.self).4

pub returns-in-Some-clause-each : goal.returns-in-Some-clause-each
returns-in-Some-clause-each c =
    let d : Name = c.args.domain.now in
    let found : indices_in c.args.sets.now.entries d ≡ Some c.in-Some.set.now = sym c.in-Some.ensures.value in
    let is_some = subst (λ (o : Option (List Index)). IsSome o) (sym found) refl in
    each_put c.args.sets.now.entries _ d c.take.new.self ((c.get_mut.follows.holds c.take.new.self).3 is_some).0 c.take.ensures.ascending c.requires

pub returns-in-None-clause-taken : goal.returns-in-None-clause-taken
returns-in-None-clause-taken c = λ e j.
    let none : indices_in c.args.sets.now.entries c.args.domain.now ≡ None = sym c.in-None.ensures.value in
    ap (λ (m : BTreeMap Name (List Index)). is_member m.entries e j) c.get_mut.follows.holds-at-none
    ∙ member_none c.args.sets.now.entries c.args.domain.now c.args.index.now none e j
