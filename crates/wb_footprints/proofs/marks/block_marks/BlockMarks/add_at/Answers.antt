use Rattle.std.proofs.Common.{rules, ◌&&◌}
use Rattle.wb_footprints.specs.Indices.{in_indices}
use Rattle.wb_footprints.proofs.InReaches.{reach_set}
use Rattle.wb_footprints.proofs.marks.block_marks.BlockMarks.add_at.Goals as goal

pub returns : goal.returns
returns c = reach_set c.args.self.now.reaches.items c.args.place c.index_mut.result.now c.add.new.self (λ p. c.add.result && in_indices c.args.block.indices p)
    c.args.block.number (search rules) (search rules) c.add.ensures
