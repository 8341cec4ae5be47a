use Rattle.std.proofs.Common.{rules, ◌≡◌, ◌<◌, ap, ◌∙◌, length, set, get_or, pos, to_z, of_z, w64, arith}
use Rattle.wb_arrays.proofs.Replaced.{set_more, within}
use Rattle.wb_arrays.proofs.pieces.set_pairs.Goals as goal

pub loop-at-preserved : goal.loop-at-preserved
loop-at-preserved g c =
    let ns = c.args.numbers.now in
    let ps = c.loop-at.pairs in
    let k = c.loop-at.at in
    let d = c.index-pairs-at.result in
    let n = get_or ns k (pos 0) in
    let low : k < length ns = omega (arith, c.loop-at-test.true, c.requires) in
    let exact : to_z w64 (of_z w64 n) ≡ n = search rules in
    ap (λ v. set ps k ((get_or ps k d).0, v)) exact
    ∙ ap (λ xs. set xs k ((get_or xs k d).0, n)) c.loop-at.invariant
    ∙ set_more c.args.pairs.now ns k d n c.loop-at-test.true c.requires (within ns k (pos 0) n low)
