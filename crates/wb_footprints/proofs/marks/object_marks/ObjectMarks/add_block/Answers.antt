use Rattle.std.proofs.Common.{Some, sym, true, ◌&&◌, rules}
use Rattle.wb_footprints.specs.Parts.{in_run}
use Rattle.wb_footprints.proofs.Named.{parts_set, parts_new, done_first}
use Rattle.wb_footprints.proofs.marks.object_marks.ObjectMarks.add_block.Goals as goal

pub returns-in-Some : goal.returns-in-Some
returns-in-Some c =
    let w = c.get_mut.follows.holds c.add_block.new.self in
    let v = sym c.in-Some.ensures.value in
    let done = c.add_block.result in
    let b = c.args.block in
    done_first c.args.self.now.names (c.get_mut.follows.lender c.add_block.new.self) c.args.name (in_run c.args.kind b.indices) done b.number
    (parts_set c.args.self.now.names (c.get_mut.follows.lender c.add_block.new.self) c.args.name (Some c.in-Some.marks.now) c.add_block.new.self v
    (w.3 (search rules)) (λ x. done && in_run c.args.kind b.indices x) b.number true c.add_block.ensures)

pub returns-in-Ok : goal.returns-in-Ok
returns-in-Ok c =
    let same = c.get_mut.follows.holds-at-none in
    let v = sym c.in_default.ensures.value in
    let b = c.args.block in
    let set = rw c.if-not-add_block.false at c.add_block-2.ensures in
    parts_new c.args.self.now.names c.get_mut.follows.lender-at-none c.put.new.self.names c.args.name c.new-marks.result c.add_block-2.new.self same v
    c.in-Ok.ensures.ok c.new-marks.ensures (in_run c.args.kind b.indices) b.number set
