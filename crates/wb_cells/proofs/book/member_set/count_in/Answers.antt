use Rattle.std.proofs.Common.{sym, ◌∙◌}
use Rattle.std.proofs.lemmas.List.{length-map}
use Rattle.wb_cells.proofs.MemberSets.{indices_ascend}
use Rattle.wb_cells.proofs.book.member_set.count_in.Goals as goal

pub returns-clause-count : goal.returns-clause-count
returns-clause-count g c = c.len.ensures.len ∙ sym (length-map c.args.set.now.keys g.K.AsIndex.as_index)

pub returns-clause-ascending : goal.returns-clause-ascending
returns-clause-ascending g c =
    indices_ascend g.K.Ord.cmp g.K.AsIndex.as_index g.met.K.AsIndex.alike c.args.set.now.keys c.len.ensures.ordered
