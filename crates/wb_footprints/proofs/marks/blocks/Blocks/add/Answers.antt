use Rattle.wb_footprints.proofs.marks.blocks.Blocks.add.Goals as goal

pub returns-in-Some : goal.returns-in-Some
returns-in-Some c = c.add_at.ensures c.args.block.indices c.in-Some.ensures.1
