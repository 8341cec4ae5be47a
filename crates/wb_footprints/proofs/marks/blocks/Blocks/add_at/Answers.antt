use Rattle.std.proofs.Common.{rules}
use Rattle.wb_footprints.specs.Indices.{in_indices}
use Rattle.wb_footprints.proofs.InBlocks.{number_set, number_same}
use Rattle.wb_footprints.proofs.marks.blocks.Blocks.add_at.Goals as goal

pub returns-in-Ok : goal.returns-in-Ok
returns-in-Ok c = λ ps h. number_set c.args.self.now.list.items c.args.place c.args.number c.index_mut.result.now c.add.new.self
    (search rules) (search rules) c.in-Ok.ensures.ok ps h

pub returns-in-Err : goal.returns-in-Err
returns-in-Err c = λ ps h. number_same c.args.self.now.list.items c.args.place c.args.number c.index_mut.result.now c.add.new.self
    (search rules) (search rules) c.in-Err.ensures.err (in_indices ps)
