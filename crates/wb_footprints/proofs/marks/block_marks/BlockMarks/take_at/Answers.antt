use Rattle.std.proofs.Common.{rules}
use Rattle.wb_footprints.proofs.InReaches.{reach_less}
use Rattle.wb_footprints.proofs.marks.block_marks.BlockMarks.take_at.Goals as goal

pub returns-clause-others : goal.returns-clause-others
returns-clause-others c = λ p n other. reach_less c.args.self.now.reaches.items c.args.place c.index_mut.result.now c.take.new.self c.args.number
    (search rules) (search rules) c.take.ensures p n other
