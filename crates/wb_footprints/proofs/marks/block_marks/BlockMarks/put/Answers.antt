use Rattle.std.proofs.Common.{true, ◌&&◌}
use Rattle.wb_footprints.specs.Indices.{in_indices}
use Rattle.wb_footprints.proofs.InReaches.{reach_more}
use Rattle.wb_footprints.proofs.marks.block_marks.BlockMarks.put.Goals as goal

pub returns-in-Ok : goal.returns-in-Ok
returns-in-Ok c =
    let b = c.args.block in
    let set = rw c.if-not-add.false at c.add.ensures in
    rw c.in-Ok.ensures.ok (reach_more c.args.self.now.reaches.items c.new-marks.result c.add.new.self (λ p. true && in_indices b.indices p) b.number
    c.new-marks.ensures.none set)
