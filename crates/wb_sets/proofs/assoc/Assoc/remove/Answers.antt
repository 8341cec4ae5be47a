use Rattle.std.proofs.Common.{sym}
use Rattle.std.proofs.lemmas.List.Edits.{length-remove}
use Rattle.std.proofs.lemmas.Option.{slice_get_within}
use Rattle.wb_sets.proofs.Ascending.{not_there, sorted-remove, members-remove, members-absent}
use Rattle.wb_sets.proofs.Present.{contains_at}
use Rattle.wb_sets.proofs.assoc.Assoc.remove.Goals as goal

pub invariant_of-self : goal.invariant_of-self
invariant_of-self g c =
    let found = rw c.as_slice.ensures.value at c.in-Ok.ensures.found in
    rw c.remove.ensures.items (sorted-remove g.K.Ord.cmp g.met.K.Ord.total g.met.K.Key.exact c.self.inside.keys.items c.args.key c.in-Ok.p c.self.invariant
    found)

pub returns-in-Ok-clause-members : goal.returns-in-Ok-clause-members
returns-in-Ok-clause-members g c =
    let found = rw c.as_slice.ensures.value at c.in-Ok.ensures.found in
    rw (c.remove.ensures.items, ← c.self.view_is) (λ k. members-remove g.K.Ord.cmp g.met.K.Ord.total g.met.K.Key.exact c.self.inside.keys.items c.args.key
    c.in-Ok.p c.self.invariant found k)

pub returns-in-Ok-clause-ascending : goal.returns-in-Ok-clause-ascending
returns-in-Ok-clause-ascending g c =
    let found = rw c.as_slice.ensures.value at c.in-Ok.ensures.found in
    rw c.remove.ensures.items (sorted-remove g.K.Ord.cmp g.met.K.Ord.total g.met.K.Key.exact c.self.inside.keys.items c.args.key c.in-Ok.p c.self.invariant
    found)

pub returns-in-Err-clause-members : goal.returns-in-Err-clause-members
returns-in-Err-clause-members g c =
    let gap = rw (c.as_slice.ensures.value, c.self.view_is) at c.in-Err.ensures.gap in
    λ k. members-absent g.K.Ord.cmp g.met.K.Ord.total g.met.K.Key.exact c.args.self.now c.args.key c.in-Err.field-0 gap k

pub returns-in-Err-clause-present : goal.returns-in-Err-clause-present
returns-in-Err-clause-present g c =
    let gap = rw (c.as_slice.ensures.value, c.self.view_is) at c.in-Err.ensures.gap in
    λ m. absurd (not_there g.K.Ord.cmp g.met.K.Ord.total g.met.K.Key.exact c.args.self.now c.args.key c.in-Err.field-0 gap m)

pub returns-in-Ok-clause-count : goal.returns-in-Ok-clause-count
returns-in-Ok-clause-count g c =
    let found = rw c.as_slice.ensures.value at c.in-Ok.ensures.found in
    rw (c.remove.ensures.items, ← c.self.view_is)
    (sym (length-remove c.self.inside.keys.items c.in-Ok.p (slice_get_within c.self.inside.keys.items c.in-Ok.p c.args.key found)))

pub returns-in-Ok-clause-absent : goal.returns-in-Ok-clause-absent
returns-in-Ok-clause-absent g c =
    let found = rw (c.as_slice.ensures.value, c.self.view_is) at c.in-Ok.ensures.found in
    λ no. absurd (no (contains_at c.args.self.now c.in-Ok.p c.args.key found))
