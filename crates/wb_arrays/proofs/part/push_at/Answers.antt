use Rattle.std.proofs.Common.{◌<◌, length, arith}
use Rattle.wb_arrays.proofs.Parts.{pushed_at}
use Rattle.wb_arrays.proofs.part.push_at.Goals as goal

pub returns : goal.returns
returns g c =
    let within : c.args.place < length c.args.pieces.now.items = omega (arith, c.requires, c.args.pieces.now.ok.0) in
    pushed_at c.args.pieces.now.items c.args.place c.index_mut.result.now c.push.new.self c.args.pair within c.index_mut.ensures.value
    c.in_ok-push.ensures.items
