use Rattle.wb_cells.proofs.MemberRuns.{members_put}
use Rattle.wb_cells.proofs.Parts.{sets-kept}
use Rattle.wb_cells.proofs.book.stored.StoredCells.put_members.Goals as goal

pub returns-clause-put : goal.returns-clause-put
returns-clause-put c = rw (← c.self.view_is) (λ put.
    let low = c.self.inside.low in
    let sets = c.self.inside.members in
    let high = c.self.inside.high in
    members_put low sets high c.self.invariant c.put_set.new.sets c.args.domain.now c.args.set
    (sets-kept low sets high c.self.invariant c.put_set.new.sets c.put_set.ensures.ordered c.put_set.ensures.each)
    (c.put_set.ensures.none put) (c.put_set.ensures.put put))
