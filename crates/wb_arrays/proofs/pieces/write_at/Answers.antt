use Rattle.std.proofs.Common.{refl}
use Rattle.wb_arrays.proofs.Parts.{written_at}
use Rattle.wb_arrays.proofs.pieces.write_at.Goals as goal

pub returns : goal.returns
returns g c = written_at c.args.pieces.now.items c.args.locale c.args.place c.index_mut.result.now _ c.args.pair c.requires.locale c.index_mut.ensures.value
    refl
