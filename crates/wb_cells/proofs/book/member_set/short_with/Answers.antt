use Rattle.wb_cells.proofs.MemberSets.{all_texts}
use Rattle.wb_cells.proofs.book.member_set.short_with.Goals as goal

pub more_in-requires-clause-kept : goal.more_in-requires-clause-kept
more_in-requires-clause-kept c = all_texts c.args.set.now.keys
