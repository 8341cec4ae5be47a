use Rattle.std.proofs.Common.{Some, sym, true, ap, rules}
use Rattle.std.proofs.lemmas.Result.{on_ok_weaker, on_err_weaker}
use Rattle.wb_footprints.proofs.Named.{part_set, part_same, part_new}
use Rattle.wb_footprints.proofs.marks.object_marks.ObjectMarks.add.Goals as goal

pub returns-in-Some-clause-ok : goal.returns-in-Some-clause-ok
returns-in-Some-clause-ok c =
    let w = c.get_mut.follows.holds c.add.new.self in
    let v = sym c.in-Some.ensures.value in
    on_ok_weaker c.add.result (λ h. part_set c.args.self.now.names (c.get_mut.follows.lender c.add.new.self) c.args.name (Some c.in-Some.marks.now)
    c.add.new.self v (w.3 (search rules)) c.args.part.now c.args.number true h) c.add.ensures.ok

pub returns-in-Some-clause-err : goal.returns-in-Some-clause-err
returns-in-Some-clause-err c =
    let w = c.get_mut.follows.holds c.add.new.self in
    let v = sym c.in-Some.ensures.value in
    on_err_weaker c.add.result (λ h. part_same c.args.self.now.names (c.get_mut.follows.lender c.add.new.self) c.args.name (Some c.in-Some.marks.now)
    c.add.new.self v (w.3 (search rules)) (ap Some (sym h))) c.add.ensures.err

pub returns-clause-ok : goal.returns-clause-ok
returns-clause-ok c =
    let same = c.get_mut.follows.holds-at-none in
    let v = sym c.in_default.ensures.value in
    on_ok_weaker c.put.result (λ h. part_new c.args.self.now.names c.get_mut.follows.lender-at-none c.put.new.self.names c.args.name
    c.new-marks.result c.add-2.new.self same v h c.new-marks.ensures c.args.part.now c.args.number c.in_ok-add.ensures.ok) c.put.ensures.ok
