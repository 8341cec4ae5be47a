use Rattle.std.proofs.Common.{Some, sym, rules}
use Rattle.wb_footprints.proofs.Named.{part_cleared, none_cleared}
use Rattle.wb_footprints.proofs.marks.object_marks.ObjectMarks.take.Goals as goal

pub returns-in-Some : goal.returns-in-Some
returns-in-Some c =
    let w = c.get_mut.follows.holds c.take.new.self in
    let v = sym c.in-Some.ensures.value in
    part_cleared c.args.self.now.names (c.get_mut.follows.lender c.take.new.self) c.args.name (Some c.in-Some.marks.now) c.take.new.self v (w.3 (search rules))
    c.args.part.now c.args.number c.take.ensures

pub returns-in_default : goal.returns-in_default
returns-in_default c =
    none_cleared c.args.self.now.names c.get_mut.follows.lender-at-none c.args.name c.args.part.now c.args.number c.get_mut.follows.holds-at-none
    (sym c.in_default.ensures.value)
