use Rattle.std.proofs.Common.{List, refl, ap, subst}
use mathlib.Core.List.{IsPrefix}
use Rattle.wb_kept_group.proofs.Groups.Fronts.{within_by}
use Rattle.wb_kept_group.proofs.group.book.Front.is_within.Goals as goal

pub returns : goal.returns
returns g c =
    let all = c.learn.new.self.log in
    let mine : IsPrefix c.self.inside.seen.log all = subst (λ (l : List _). IsPrefix l all) (ap (λ s. s.log) c.again-both.ensures) c.learn.ensures.2 in
    rw (← c.self.view_is, ← c.other.view_is)
    (within_by c.self.inside.seen.log c.other.inside.seen.log all mine c.learn.ensures.3 c.self.inside.count c.other.inside.count c.self.invariant.0 c.other.invariant.0 _ refl)
