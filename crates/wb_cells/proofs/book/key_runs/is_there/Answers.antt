use Rattle.std.proofs.Common.{sym, ◌∙◌}
use Rattle.wb_cells.proofs.MemberSets.{has_key}
use Rattle.wb_cells.proofs.book.key_runs.is_there.Goals as goal

pub returns-else-are_one-clause-found : goal.returns-else-are_one-clause-found
returns-else-are_one-clause-found g c =
    c.contains.ensures ∙ sym (has_key g.K.Ord.cmp g.K.AsIndex.as_index g.met.K.AsIndex.alike c.args.keys.now.keys c.args.key.now)

pub returns-in-None-clause-found : goal.returns-in-None-clause-found
returns-in-None-clause-found g c =
    c.contains-in-None.ensures ∙ sym (has_key g.K.Ord.cmp g.K.AsIndex.as_index g.met.K.AsIndex.alike c.args.keys.now.keys c.args.key.now)
