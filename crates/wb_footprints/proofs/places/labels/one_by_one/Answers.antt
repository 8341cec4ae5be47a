use Rattle.std.proofs.Common.{◌<◌, ◌++◌, [], ◌∷◌, List, length, sym, ap, ◌∙◌, arith}
use Rattle.std.proofs.lemmas.List.{take_all}
use Rattle.std.proofs.lemmas.Option.{get_or_from_slice_get}
use Rattle.wb_footprints.specs.Texts.{Text}
use Rattle.wb_footprints.proofs.Merging.{take_more}
use Rattle.wb_footprints.proofs.places.labels.one_by_one.Goals as goal

pub loop-at-preserved : goal.loop-at-preserved
loop-at-preserved c =
    let ts = c.args.list.now in
    let i = c.loop-at.at in
    let t = c.label.result in
    let low : i < length ts = omega (arith, c.loop-at-test.true, c.len-at-end.ensures.value) in
    c.in-Ok-push.ensures.items
    ∙ ap (λ (xs : List Text). xs ++ t ∷ []) c.loop-at.invariant
    ∙ sym (take_more ts i t low (get_or_from_slice_get ts i t t c.label.ensures))

pub returns : goal.returns
returns c = c.loop-at.invariant ∙ take_all c.loop-at.at c.args.list.now (omega (arith, c.loop-at-test.false, c.len-at-end.ensures.value))
