use Rattle.std.proofs.Common.{sym, ◌∙◌}
use Rattle.wb_footprints.proofs.Ranges.{none_behind, first_found, other_found}
use Rattle.wb_footprints.proofs.marks.key_marks.Marks.least_after.Goals as goal

pub returns-in-None : goal.returns-in-None
returns-in-None g c =
    let s = rw c.in-None.is at c.next.ensures.steps in
    none_behind g.K.Ord.cmp g.met.K.Ord.total c.args.self.now.set c.args.key c.args.after c.range.result (c.range.ensures.in_range tt) s.0

pub returns-then-eq : goal.returns-then-eq
returns-then-eq g c =
    let s = rw c.in-Some.is at c.next.ensures.steps in
    let tie = sym (g.met.K.Ord.matches_eq c.in-Some.field-0.now.0 c.args.key) ∙ sym c.eq.ensures ∙ c.if-eq.true in
    first_found g.K.Ord.cmp g.met.K.Ord.total c.args.self.now.set c.args.key c.args.after c.range.result _ c.in-Some.field-0.now (c.range.ensures.in_range tt)
    s tie

pub returns-else-eq : goal.returns-else-eq
returns-else-eq g c =
    let s = rw c.in-Some.is at c.next.ensures.steps in
    let apart = sym (g.met.K.Ord.matches_eq c.in-Some.field-0.now.0 c.args.key) ∙ sym c.eq.ensures ∙ c.if-eq.false in
    other_found g.K.Ord.cmp g.met.K.Ord.total c.args.self.now.set c.args.key c.args.after c.range.result _ c.in-Some.field-0.now (c.range.ensures.in_range tt)
    s apart
