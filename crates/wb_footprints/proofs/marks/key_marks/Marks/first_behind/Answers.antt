use Rattle.wb_footprints.proofs.Ranges.{none_at, mark_at, none_before}
use Rattle.wb_footprints.proofs.marks.key_marks.Marks.first_behind.Goals as goal

pub returns-in-None-clause-none : goal.returns-in-None-clause-none
returns-in-None-clause-none g c =
    let s = rw c.in-None.is at c.next.ensures.steps in
    none_at g.K.Ord.cmp g.met.K.Ord.total c.args.self.now.set c.args.key c.args.after c.range.result (c.range.ensures.in_range tt) s.0

pub returns-in-Some-clause-behind : goal.returns-in-Some-clause-behind
returns-in-Some-clause-behind g c =
    let s = rw c.in-Some.is at c.next.ensures.steps in
    (mark_at g.K.Ord.cmp g.met.K.Ord.total c.args.self.now.set c.args.key c.args.after c.range.result _ c.in-Some.field-0.now (c.range.ensures.in_range tt) s).0

pub returns-in-Some-clause-mark : goal.returns-in-Some-clause-mark
returns-in-Some-clause-mark g c =
    let s = rw c.in-Some.is at c.next.ensures.steps in
    (mark_at g.K.Ord.cmp g.met.K.Ord.total c.args.self.now.set c.args.key c.args.after c.range.result _ c.in-Some.field-0.now (c.range.ensures.in_range tt) s).1

pub returns-in-Some-clause-first : goal.returns-in-Some-clause-first
returns-in-Some-clause-first g c =
    let s = rw c.in-Some.is at c.next.ensures.steps in
    none_before g.K.Ord.cmp g.met.K.Ord.total c.args.self.now.set c.args.key c.args.after c.range.result _ c.in-Some.field-0.now
    (c.range.ensures.in_range tt) s
