use Rattle.std.proofs.Common.{◌≡◌, List, Some, IsSome, Option, refl, sym, ap, subst, ◌∙◌}
use Rattle.std.specs.BTreeMap.{is_at}
use Rattle.std.specs.Cmp.Lexicographic.{slice_cmp}
use Rattle.std.specs.Map.{set_value}
use Rattle.std.specs.Ordering.{nat_cmp}
use Rattle.std.proofs.lemmas.Result.{on_ok_weaker, on_err_weaker}
use Rattle.wb_cells.specs.declared.values.index.Index.{Index}
use Rattle.wb_cells.specs.Cells.{Name}
use Rattle.wb_cells.specs.Stored.{indices_in, has_index}
use Rattle.wb_cells.proofs.MemberMaps.{member_more, each_put, set_same}
use Rattle.wb_cells.proofs.book.members.put_member.Goals as goal

pub returns-in-Some-clause-ok : goal.returns-in-Some-clause-ok
returns-in-Some-clause-ok c =
    let d : Name = c.args.domain.now in
    let p : List Index = c.in-Some.set.now in
    let found : indices_in c.args.sets.now.entries d ≡ Some p = sym c.in-Some.ensures.value in
    let is_some = subst (λ (o : Option (List Index)). IsSome o) (sym found) refl in
    on_ok_weaker c.put.result
    (λ more. member_more c.args.sets.now.entries _ d c.args.index.now (Some p) c.put.new.self found ((c.get_mut.follows.holds c.put.new.self).3 is_some).0 more)
    c.put.ensures.ok

pub returns-in-Some-clause-absent : goal.returns-in-Some-clause-absent
returns-in-Some-clause-absent c =
    let found : indices_in c.args.sets.now.entries c.args.domain.now ≡ Some c.in-Some.set.now = sym c.in-Some.ensures.value in
    on_err_weaker c.put.result (λ none. ap (λ o. has_index o c.args.index.now) found ∙ none) c.put.ensures.absent

pub returns-in-Some-clause-err : goal.returns-in-Some-clause-err
returns-in-Some-clause-err c =
    let d : Name = c.args.domain.now in
    let found : indices_in c.args.sets.now.entries d ≡ Some c.in-Some.set.now = sym c.in-Some.ensures.value in
    on_err_weaker c.put.result
    (λ same. (c.get_mut.follows.holds c.put.new.self).0 ∙ ap (set_value (is_at (slice_cmp nat_cmp d)) c.args.sets.now.entries) same
    ∙ set_same (is_at (slice_cmp nat_cmp d)) c.args.sets.now.entries c.in-Some.set.now found)
    c.put.ensures.err

pub returns-in-Some-clause-ordered : goal.returns-in-Some-clause-ordered
returns-in-Some-clause-ordered c = (c.get_mut.follows.holds c.put.new.self).4

pub returns-in-Some-clause-each : goal.returns-in-Some-clause-each
returns-in-Some-clause-each c =
    let d : Name = c.args.domain.now in
    let found : indices_in c.args.sets.now.entries d ≡ Some c.in-Some.set.now = sym c.in-Some.ensures.value in
    let is_some = subst (λ (o : Option (List Index)). IsSome o) (sym found) refl in
    each_put c.args.sets.now.entries _ d c.put.new.self ((c.get_mut.follows.holds c.put.new.self).3 is_some).0 c.put.ensures.ascending c.requires
