use Rattle.std.proofs.Common.{◌≡◌, length, map, arith, ap, ◌∙◌}
use Rattle.std.proofs.lemmas.List.{with_items_is}
use Rattle.wb_arrays.proofs.Parts.{read_at}
use Rattle.wb_arrays.proofs.Replaced.{put_first}
use Rattle.wb_arrays.proofs.pieces.fill_first.Goals as goal

pub returns : goal.returns
returns g c =
    let vs = c.args.pieces.now.items in
    let v = c.index_mut.result.now in
    let many : length c.fill_pairs.new.pairs ≡ v.len = omega (arith, c.fill_pairs.auto.pairs, ap length c.as_mut_slice.ensures.value, v.ok.0) in
    put_first vs v _ _ c.index_mut.ensures.value
    (with_items_is v c.fill_pairs.new.pairs many ∙ c.fill_pairs.ensures
    ∙ ap (map (λ e. (e.0, c.args.number.now))) (c.as_mut_slice.ensures.value ∙ read_at vs 0 v c.requires c.index_mut.ensures.value))
