use Rattle.std.proofs.Common.{◌≡◌, length, arith, ap, ◌∙◌}
use Rattle.std.proofs.lemmas.List.{with_items_is}
use Rattle.std.specs.List.{zip}
use Rattle.std.specs.Map.{keys_of}
use Rattle.wb_arrays.proofs.Parts.{read_at}
use Rattle.wb_arrays.proofs.Replaced.{put_first}
use Rattle.wb_arrays.proofs.pieces.set_first.Goals as goal

pub set_pairs-requires : goal.set_pairs-requires
set_pairs-requires g c =
    ap length (c.as_mut_slice.ensures.value ∙ read_at c.args.pieces.now.items 0 c.index_mut.result.now c.requires.some c.index_mut.ensures.value)
    ∙ c.requires.many

pub returns : goal.returns
returns g c =
    let vs = c.args.pieces.now.items in
    let v = c.index_mut.result.now in
    let many : length c.set_pairs.new.pairs ≡ v.len = omega (arith, c.set_pairs.auto.pairs, ap length c.as_mut_slice.ensures.value, v.ok.0) in
    put_first vs v _ _ c.index_mut.ensures.value
    (with_items_is v c.set_pairs.new.pairs many ∙ c.set_pairs.ensures
    ∙ ap (λ es. zip (keys_of es) c.args.numbers.now) (c.as_mut_slice.ensures.value ∙ read_at vs 0 v c.requires.some c.index_mut.ensures.value))
