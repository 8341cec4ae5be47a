use Rattle.wb_lines.proofs.turns.free.Goals as goal

pub returns-clause-free : goal.returns-clause-free
returns-clause-free g c = (c.requires.lets_go _ _ c.let_go.ensures).0

pub returns-clause-unspent : goal.returns-clause-unspent
returns-clause-unspent g c = (c.requires.lets_go _ _ c.let_go.ensures).1
