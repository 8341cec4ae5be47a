use Rattle.std.proofs.Common.{◌≡◌, true, false, not, ap, ◌∙◌, arith}
use Rattle.std.specs.Result.{is_ok}
use Rattle.std.proofs.lemmas.Grind.{common_steps}
use Rattle.std.proofs.lemmas.List.Edits.{length-insert}
use Rattle.wb_sets.proofs.Ascending.{not_there, sorted-insert, members-insert}
use Rattle.wb_sets.proofs.Present.{contains_at, members-present}
use Rattle.wb_sets.proofs.assoc.Assoc.add.Goals as goal

pub invariant_of-self-in-Err : goal.invariant_of-self-in-Err
invariant_of-self-in-Err g c =
    let ok : is_ok c.insert.result ≡ true = grind (arith, common_steps, c.is_err.ensures.negation, c.is_err.ensures.value, c.if-is_err.false) in
    let e = rw ok at c.insert.ensures.items in
    let gap = rw c.as_slice.ensures.value at c.in-Err.ensures.gap in
    rw e (sorted-insert g.K.Ord.cmp g.met.K.Ord.total g.met.K.Key.exact c.self.inside.keys.items c.args.key c.in-Err.p c.self.invariant gap)

pub returns-else-is_err-clause-members : goal.returns-else-is_err-clause-members
returns-else-is_err-clause-members g c =
    let ok : is_ok c.insert.result ≡ true = grind (arith, common_steps, c.is_err.ensures.negation, c.is_err.ensures.value, c.if-is_err.false) in
    let e = rw ok at c.insert.ensures.items in
    rw (e, ← c.self.view_is) (λ k. members-insert c.self.inside.keys.items c.args.key c.in-Err.p k)

pub returns-else-is_err-clause-ascending : goal.returns-else-is_err-clause-ascending
returns-else-is_err-clause-ascending g c =
    let ok : is_ok c.insert.result ≡ true = grind (arith, common_steps, c.is_err.ensures.negation, c.is_err.ensures.value, c.if-is_err.false) in
    let e = rw ok at c.insert.ensures.items in
    let gap = rw c.as_slice.ensures.value at c.in-Err.ensures.gap in
    rw e (sorted-insert g.K.Ord.cmp g.met.K.Ord.total g.met.K.Key.exact c.self.inside.keys.items c.args.key c.in-Err.p c.self.invariant gap)

pub returns-then-is_err-clause-present : goal.returns-then-is_err-clause-present
returns-then-is_err-clause-present g c =
    let gap = rw (c.as_slice.ensures.value, c.self.view_is) at c.in-Err.ensures.gap in
    λ m. absurd (not_there g.K.Ord.cmp g.met.K.Ord.total g.met.K.Key.exact c.args.self.now c.args.key c.in-Err.p gap m)

pub returns-else-is_err-clause-present : goal.returns-else-is_err-clause-present
returns-else-is_err-clause-present g c =
    let gap = rw (c.as_slice.ensures.value, c.self.view_is) at c.in-Err.ensures.gap in
    λ m. absurd (not_there g.K.Ord.cmp g.met.K.Ord.total g.met.K.Key.exact c.args.self.now c.args.key c.in-Err.p gap m)

pub returns-in-Ok-clause-members : goal.returns-in-Ok-clause-members
returns-in-Ok-clause-members g c =
    let found = rw (c.as_slice.ensures.value, c.self.view_is) at c.in-Ok.ensures.found in
    λ k. members-present c.args.self.now c.args.key c.in-Ok.field-0 k found

pub returns-in-Ok-clause-absent : goal.returns-in-Ok-clause-absent
returns-in-Ok-clause-absent g c =
    let found = rw (c.as_slice.ensures.value, c.self.view_is) at c.in-Ok.ensures.found in
    λ no. absurd (no (contains_at c.args.self.now c.in-Ok.field-0 c.args.key found))

pub returns-else-is_err-clause-count : goal.returns-else-is_err-clause-count
returns-else-is_err-clause-count g c =
    let ok : is_ok c.insert.result ≡ true = c.is_err.ensures.negation ∙ ap not c.if-is_err.false in
    let e = rw ok at c.insert.ensures.items in
    let gap = rw c.as_slice.ensures.value at c.in-Err.ensures.gap in
    rw (e, ← c.self.view_is) (length-insert c.self.inside.keys.items c.in-Err.p c.args.key gap.within)

-- after an error the keys are as they were
pub returns-then-is_err-clause-err : goal.returns-then-is_err-clause-err
returns-then-is_err-clause-err g c =
    let failed : is_ok c.insert.result ≡ false = c.is_err.ensures.negation ∙ ap not c.if-is_err.true in
    let e = rw failed at c.insert.ensures.items in
    rw e c.self.view_is

pub returns-then-is_err-clause-ascending : goal.returns-then-is_err-clause-ascending
returns-then-is_err-clause-ascending g c =
    let failed : is_ok c.insert.result ≡ false = c.is_err.ensures.negation ∙ ap not c.if-is_err.true in
    let e = rw failed at c.insert.ensures.items in
    rw e c.self.invariant
