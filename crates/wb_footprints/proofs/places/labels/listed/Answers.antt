use Rattle.std.proofs.Common.{◌++◌, [], ◌∷◌, List, sym, ap, ◌∙◌, arith}
use Rattle.std.proofs.lemmas.List.{take_all}
use Rattle.wb_footprints.specs.Texts.{Text}
use Rattle.wb_footprints.proofs.Merging.{take_more}
use Rattle.wb_footprints.proofs.places.labels.listed.Goals as goal

pub loop-label-preserved : goal.loop-label-preserved
loop-label-preserved c =
    let ts = c.args.labels.now in
    let i = c.loop-label.label-index in
    let t = c.label-item.result in
    c.in-Ok.ensures
    ∙ ap (λ (xs : List Text). xs ++ t ∷ []) c.loop-label.invariant
    ∙ sym (take_more ts i t (omega (arith, c.loop-label-test.true)) (sym c.label-item.is))

pub returns : goal.returns
returns c = c.loop-label.invariant ∙ take_all c.loop-label.label-index c.args.labels.now (omega (arith, c.loop-label-test.false))
