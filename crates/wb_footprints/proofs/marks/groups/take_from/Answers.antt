use Rattle.wb_footprints.proofs.InGroups.{cut}
use Rattle.wb_footprints.proofs.marks.groups.take_from.Goals as goal

pub returns-clause-all : goal.returns-clause-all
returns-clause-all c = λ f a. c.drop_bare.ensures.all (cut f c.args.key c.args.number) (c.unmark_in.ensures.all f a)
