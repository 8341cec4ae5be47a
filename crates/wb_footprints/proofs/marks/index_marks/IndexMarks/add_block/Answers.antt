use Rattle.std.proofs.Common.{refl}
use Rattle.wb_footprints.proofs.Indexed.{block_added}
use Rattle.wb_footprints.proofs.marks.index_marks.IndexMarks.add_block.Goals as goal

pub returns : goal.returns
returns c = block_added c.args.self.now (record c.args.self.now { blocks = c.add.new.self }) c.args.block.indices c.args.block.number refl refl c.add.result c.add.ensures
