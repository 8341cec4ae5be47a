use Rattle.std.proofs.Common.{◌++◌, ap, ◌∙◌}
use Rattle.wb_arrays.proofs.Splits.{chained_more, chained_all}
use Rattle.wb_arrays.proofs.pieces.chained.Goals as goal

pub loop-piece-preserved : goal.loop-piece-preserved
loop-piece-preserved g c =
    let old = c.loop-piece.pairs.items in
    let new = c.in_ok-extend_from_slice.ensures.items ∙ ap (λ xs. old ++ xs) c.deref.ensures.value in
    chained_more c.args.pieces.now c.loop-piece.piece-index c.piece-item.result old _ _ c.loop-piece-test.true c.piece-item.is new c.loop-piece.invariant

pub returns : goal.returns
returns g c = chained_all c.args.pieces.now c.loop-piece.piece-index _ _ c.loop-piece-test.false c.loop-piece.invariant
