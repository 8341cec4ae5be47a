use Rattle.std.proofs.Common.{◌≡◌, arith}
use Rattle.std.proofs.lemmas.Grind.{common_steps}
use Rattle.wb_arrays.proofs.pieces.pairs_in.Goals as goal

pub returns-clause-ascending : goal.returns-clause-ascending
returns-clause-ascending g c =
    let all : c.loop-index.pairs.items ≡ c.args.map.now.entries = grind (arith, common_steps) in
    rw all c.len.ensures.ordered
