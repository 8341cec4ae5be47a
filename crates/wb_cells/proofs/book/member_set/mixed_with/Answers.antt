use Rattle.std.proofs.Common.{map}
use Rattle.wb_cells.proofs.MemberSets.{all_any}
use Rattle.wb_cells.proofs.book.member_set.mixed_with.Goals as goal

pub more_in-requires-clause-kept : goal.more_in-requires-clause-kept
more_in-requires-clause-kept g c = all_any (map g.K.AsIndex.as_index c.args.set.now.keys)
