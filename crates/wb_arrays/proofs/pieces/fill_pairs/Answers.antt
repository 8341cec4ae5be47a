use Rattle.std.proofs.Common.{rules, ◌≡◌, ap, ◌∙◌, set, get_or, to_z, of_z, w64}
use Rattle.wb_arrays.proofs.Replaced.{fill_more}
use Rattle.wb_arrays.proofs.pieces.fill_pairs.Goals as goal

pub loop-pair-preserved : goal.loop-pair-preserved
loop-pair-preserved g c =
    let n = c.args.number.now in
    let ps = c.loop-pair.pairs in
    let k = c.loop-pair.pair-index in
    let d = c.pair-item.result in
    let exact : to_z w64 (of_z w64 n) ≡ n = search rules in
    ap (λ v. set ps k ((get_or ps k d).0, v)) exact
    ∙ ap (λ xs. set xs k ((get_or xs k d).0, n)) c.loop-pair.invariant
    ∙ fill_more c.args.pairs.now n k d c.loop-pair-test.true
